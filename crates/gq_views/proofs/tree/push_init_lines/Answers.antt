use Rattle.std.proofs.Common.{◌∙◌, suc, ◌++◌, refl, ap₂, append_assoc, add-one}
use Rattle.std.proofs.lemmas.Result.{on_ok_weaker}
use Rattle.gq_scenario.specs.Component_trees.{version_number}
use Rattle.gq_views.specs.Listing.{line}
use Rattle.gq_views.specs.Tree.{init_text, offers_lines}
use Rattle.gq_views.proofs.Printed_view_nodes.{same_init}
use Rattle.gq_views.proofs.tree.push_init_lines.Goals as goal

pub returns : goal.returns
returns c =
    let init = c.args.init.now in
    let d = c.args.depth in
    let v = version_number c.args.version in
    let named = same_init d c.args.text.now.items c.args.children.now v v _ init.name _ init.quantum refl
    (c.as_bytes-name.ensures.bytes ∙ c.name.ensures) c.quantum.ensures in
    let offers = ap₂ offers_lines (add-one d) c.offers.ensures in
    let whole = append_assoc c.args.text.now.items (line d (init_text v init.name init.quantum c.args.children.now)) (offers_lines (suc d) init.offers) in
    on_ok_weaker c.push_offers.result (λ e. e ∙ (ap₂ (λ a b. a ++ b) (c.in_ok-push_init.ensures ∙ named) offers ∙ whole)) c.push_offers.ensures
