use Rattle.std.proofs.Common.{◌∙◌, ◌++◌, ap, arith, false, get_or, refl}
use Rattle.std.proofs.lemmas.List.{length-map}
use Rattle.gq_model.specs.machine.Scenario.{components, system}
use Rattle.gq_races.specs.Race_text.{sections_lines}
use Rattle.gq_races.specs.internal.Conflicts.{sharing}
use Rattle.gq_races.specs.internal.Openers.{opened_among, opened_from}
use Rattle.gq_views.specs.Listing.{joined}
use Rattle.gq_views.specs.internal.Table_leaves.{leaf_of}
use Rattle.gq_views.proofs.Table_leaf_servers.{leaf_there}
use Rattle.gq_races.proofs.Shared_leaf_servers.{shared_test}
use Rattle.gq_races.proofs.Race_leaf_lines.{leaf_put, lines_are}
use Rattle.gq_races.proofs.races.push_leaves.Goals as goal

pub bounds-shared-number : goal.bounds-shared-number
bounds-shared-number c =
    let all = components c.args.table.now in
    let count = c.requires.shared.0 ∙ length-map all (opened_from all) in
    omega (arith, count, c.leaf_count-number-end.ensures.count, c.loop-number-test.true)

pub loop-number-preserved : goal.loop-number-preserved
loop-number-preserved c =
    let l = c.loop-number in
    let s = c.args.table.now in
    let all = components s in
    let leaf = leaf_of s l.number in
    let at = leaf_there s leaf l.number l.number _ refl refl c.leaf_count-number-end.ensures.count c.loop-number-test.true in
    let shared = get_or c.args.shared.now l.number false in
    let is_shared = shared_test s c.args.shared.now c.requires.shared l.number at.within false shared refl in
    leaf_put (system s) all l.number leaf.component at.within at.is l.text.items c.push_leaf.new.text.items _
    (c.in_ok-push_leaf.ensures
    ∙ ap (λ n. l.text.items ++ joined (sharing shared (leaf_of s n).component (opened_among all n all)
    ++ sections_lines shared (leaf_of s n).component.label (leaf_of s n).component.node.program.sections)) c.new-leaf.ensures
    ∙ ap (λ b. l.text.items ++ joined b) (lines_are s l.number leaf.component shared is_shared))
    l.invariant
