use Rattle.std.proofs.Common.{◌+◌, [], map, take, drop}
use Rattle.gq_model.specs.rules.Resolve.{Bad_after, is_bad_after}
use Rattle.gq_model.specs.texts.Fault_texts.{unresolved_text}
use Rattle.gq_resolve.specs.internal.Afters.{named_by}
use Rattle.gq_faults.specs.Scenario_faults.{after_faults}
use Rattle.gq_faults.specs.Found_lists.{when}
use Rattle.gq_faults.specs.Found_lines.{lines_found}
use Rattle.gq_faults.proofs.Appended_faults.{after_next, after_end, all_there}
use Rattle.gq_faults.proofs.Joined_fault_lists.{then_more}
use Rattle.gq_faults.proofs.start_after_faults.push_after.Goals as goal

pub loop-place-preserved : goal.loop-place-preserved
loop-place-preserved c =
    let all = c.args.components.now in
    let i = c.loop-place.place in
    let x = c.index-components-place.result in
    let earlier = named_by [] (take i all) in
    then_more _ (lines_found c.loop-place.found.items) _ (map unresolved_text (after_faults all earlier (drop i all)))
    (map unresolved_text (when (is_bad_after all earlier x x.node.after) (Bad_after x.node.name)))
    (map unresolved_text (after_faults all (named_by [] (take (i + 1) all)) (drop (i + 1) all)))
    c.in_ok-push_bad.ensures (after_next unresolved_text all i x c.loop-place-test.true c.index-components-place.is) c.loop-place.invariant

pub returns : goal.returns
returns c =
    let all = c.args.components.now in
    let i = c.loop-place.place in
    all_there _ _ _ c.loop-place.invariant (after_end unresolved_text all (named_by [] (take i all)) i c.loop-place-test.false)
