use Rattle.std.proofs.Common.{◌+◌, List, map, drop}
use Rattle.gq_load.specs.Load.{fault_text, source_fault}
use Rattle.gq_model.specs.machine.Scenario.{Component}
use Rattle.gq_load.specs.Load.{LoadRefusal}
use Rattle.gq_faults.specs.Found_lists.{all_found, listed_if}
use Rattle.gq_faults.specs.Found_lines.{lines_found}
use Rattle.gq_faults.proofs.Appended_faults.{mapped_next, mapped_end, all_there}
use Rattle.gq_faults.proofs.Joined_fault_lists.{then_more}
use Rattle.gq_faults.proofs.sources.push_sources.Goals as goal

abbrev f : Component → List LoadRefusal
f c = listed_if (source_fault c.node.name c.node.source)

pub loop-place-preserved : goal.loop-place-preserved
loop-place-preserved c =
    let xs = c.args.components.now in
    let i = c.loop-place.place in
    let x = c.index-components-place.result in
    then_more _ (lines_found c.loop-place.found.items) _ (map fault_text (all_found f (drop i xs))) (map fault_text (f x)) (map fault_text
    (all_found f (drop (i + 1) xs)))
    c.in_ok-push_source.ensures (mapped_next fault_text f xs i x c.loop-place-test.true c.index-components-place.is) c.loop-place.invariant

pub returns : goal.returns
returns c =
    all_there _ _ _ c.loop-place.invariant (mapped_end fault_text f c.args.components.now c.loop-place.place c.loop-place-test.false)
