use Rattle.std.proofs.Common.{◌∙◌, ◌++◌, ap}
use Rattle.std.proofs.lemmas.Result.{on_ok_weaker}
use Rattle.gq_model.specs.machine.Scenario.{components}
use Rattle.gq_races.specs.Race_text.{sections_lines}
use Rattle.gq_races.specs.internal.Conflicts.{sharing}
use Rattle.gq_races.specs.internal.Openers.{opened_among}
use Rattle.gq_views.specs.Listing.{joined}
use Rattle.gq_views.specs.internal.Table_leaves.{LeafOfAll}
use Rattle.gq_races.proofs.Race_leaf_lines.{both_put}
use Rattle.gq_races.proofs.races.push_leaf.Goals as goal

pub returns : goal.returns
returns c =
    let all = components c.args.table.now in
    let openers = opened_among all c.args.leaf all in
    let shared = c.args.shared in
    let before = c.args.text.now.items in
    let middle = c.push_sharing.new.text.items in
    let at : LeafOfAll = c.new-server.result in
    on_ok_weaker c.push_leaf_effects.result
    (λ e. both_put (sharing shared at.component openers) (sections_lines shared at.component.label at.component.node.program.sections) before middle _
    c.in_ok-push_sharing.ensures
    (e ∙ (λ j. middle ++ joined (sections_lines shared (c.label.ensures.label j) (c.program.ensures j).sections)))
    ∙ ap (λ (v : LeafOfAll). before ++ joined (sharing shared v.component openers
    ++ sections_lines shared v.component.label v.component.node.program.sections)) c.new-server.ensures)
    c.push_leaf_effects.ensures
