use Rattle.std.proofs.Common.{◌≡◌, ◌∙◌, ◌++◌, OnOk, ap, append_assoc, subst}
use Rattle.std.specs.Prelude.{option_map}
use Rattle.gq_scenario.specs.Component_trees.{version_number}
use Rattle.gq_views.specs.Tree.{budget_part, leaf_parts}
use Rattle.gq_views.proofs.graph.push_leaf_label.Goals as goal

pub returns : goal.returns
returns c =
    let v = version_number c.args.version in
    let t = c.args.text.now.items in
    let last = budget_part v (option_map (λ b. b.now) c.args.budget) in
    subst (λ l. OnOk c.push_budget_part.result (c.push_budget_part.new.text.items ≡ l))
    (ap (λ l. l ++ last) c.in_ok-push_leaf_parts.ensures ∙ append_assoc t (leaf_parts v c.args.leaf.now) last) c.push_budget_part.ensures
