use Rattle.std.proofs.Common.{length, map, sym}
use Rattle.std.proofs.lemmas.List.{length-map}
use Rattle.gq_faults.specs.Found_lines.{lines_found}
use Rattle.gq_faults.proofs.Appended_faults.{all_there}
use Rattle.gq_faults.proofs.Cyclic_leaf_list.{next_cycle, end_cycles}
use Rattle.gq_faults.proofs.route_faults.push_all_reached.Goals as goal

pub loop-place-preserved : goal.loop-place-preserved
loop-place-preserved c = λ all of.
    next_cycle all c.args.components.now (map (λ l. l.items) c.args.used.now) (length c.args.used.now) c.loop-place.place
    (lines_found c.loop-place.found.items) (lines_found c.push_reached.new.found.items) _ of c.requires (sym (length-map c.args.used.now (λ l. l.items)))
    c.loop-place-test.true c.in_ok-push_reached.ensures (c.loop-place.invariant all of)

pub returns : goal.returns
returns c = λ all of.
    all_there _ _ _ (c.loop-place.invariant all of) (end_cycles all c.args.components.now c.loop-place.place c.loop-place-test.false)
