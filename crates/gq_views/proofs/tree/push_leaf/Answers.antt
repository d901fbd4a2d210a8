use Rattle.std.proofs.Common.{◌≡◌, ◌∙◌, ◌++◌, ◌+◌, OnOk, ap, ap₂, subst}
use Rattle.std.specs.Prelude.{option_map}
use Rattle.gq_model.specs.machine.Scenario.{system}
use Rattle.gq_views.specs.Listing.{line}
use Rattle.gq_views.specs.Tree.{leaf_text}
use Rattle.gq_views.specs.internal.Opened_services.{opens_of}
use Rattle.gq_views.proofs.Growing_view_texts.{line_put}
use Rattle.gq_views.proofs.Printed_services.{opens_printed}
use Rattle.gq_views.proofs.tree.push_leaf.Goals as goal

pub returns : goal.returns
returns c =
    let s = c.args.drawn.now in
    let d = c.args.depth in
    let t = c.args.text.now.items in
    let first = line_put d (leaf_text _ c.args.leaf.now (option_map (λ b. b.now) c.budget.result)) t c.push_indent.new.text.items
    c.push_leaf_text.new.text.items c.end_line.new.text.items
    c.in_ok-push_indent.ensures c.in_ok-push_leaf_text.ensures c.in_ok-end_line.ensures in
    let reported = ap₂ (λ v b. t ++ line d (leaf_text v c.args.leaf.now b)) c.version.ensures c.budget.ensures in
    let opens = ap (λ o. opens_of (d + 1) (system s) o) c.opened.ensures ∙ opens_printed (d + 1) s c.args.place in
    subst (λ l. OnOk c.push_opens.result (c.push_opens.new.text.items ≡ l)) (ap₂ (λ a b. a ++ b) (first ∙ reported) opens) c.push_opens.ensures
