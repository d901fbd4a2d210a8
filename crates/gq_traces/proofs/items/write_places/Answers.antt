-- Classes one after the other.
use Rattle.std.proofs.Common.{◌≡◌, ℕ, IfSome, subst}
use Rattle.std.specs.Prelude.{slice_get, slice_index}
use Rattle.gq_model.specs.machine.Scenario.{Scenario}
use Rattle.gq_tariff.specs.Prices.{class_size}
use Rattle.gq_traces.specs.Account_state.{items_text, place_items}
use Rattle.gq_traces.specs.internal.Printed_steps.{Goes}
use Rattle.gq_traces.proofs.Printed_slot_contents.{places_end, places_first, places_next}
use Rattle.gq_traces.proofs.items.write_places.Goals as goal

pub loop-number-init : goal.loop-number-init
loop-number-init g c = places_first g.W.Write.contents c.args.machine.now c.args.leaf c.args.out.now c.args.going

pub loop-number-preserved : goal.loop-number-preserved
loop-number-preserved g c =
    let m = c.args.machine.now in
    let l = c.loop-number in
    let w = c.write_class-going in
    let size = class_size c.class_at-class.result in
    places_next g.W.Write.contents m c.args.leaf c.args.out.now l.out w.new.out c.args.going l.going w.result l.number size c.peak-peak.result
    c.loop-number-test.true c.requires.peaks c.class_at-class.ensures.size
    (subst (λ (n : ℕ). IfSome (slice_get m.world.leaves c.args.leaf) (λ l. c.peak-peak.result ≡ slice_index l.peaks n)) c.class_at-class.ensures.number
    c.peak-peak.ensures) l.invariant
    (subst (λ (s : Scenario). Goes g.W.Write.contents l.out w.new.out l.going w.result (items_text s.version (place_items size c.peak-peak.result)))
    c.table-table.ensures w.ensures)

pub returns : goal.returns
returns g c =
    places_end g.W.Write.contents c.args.machine.now c.args.leaf c.args.out.now c.loop-number.out c.args.going c.loop-number.going c.loop-number.number
    c.loop-number-test.false c.loop-number.invariant
