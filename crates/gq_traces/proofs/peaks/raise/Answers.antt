-- One leaf after the other.
use Rattle.std.proofs.Common.{◌≡◌, ◌∙◌, ◌<◌, ℕ, ap, arith, length, refl, subst}
use Rattle.gq_machine.specs.Machines.{Machine}
use Rattle.gq_model.specs.machine.Scenario.{Scenario, components}
use Rattle.gq_model.specs.machine.World as model
use Rattle.gq_traces.specs.declared.peaks.LeafPeaks.{LeafPeaks}
use Rattle.gq_traces.specs.internal.Peaking.{IsRaised}
use Rattle.gq_traces.proofs.Renewed_trace_notes.{later_more, length_set}
use Rattle.gq_traces.proofs.Peaks_kept.{raised_more}
use Rattle.gq_traces.proofs.Printed_own_slots.{within}
use Rattle.gq_traces.proofs.peaks.raise.Goals as goal

pub loop-number-init : goal.loop-number-init
loop-number-init c = record { long = refl; raised = λ x p q below. absurd (omega (arith, below)); others = λ x over. refl }

-- by the machine that a world is
in_world : (m : Machine) (s : Scenario) (w : model.World) (x turn : ℕ) (old new : LeafPeaks) → m ≡ record { scenario = s; world = w }
    → IsRaised m.scenario m.world x turn old new → IsRaised s w x turn old new
in_world m s w x turn old new is h = subst (λ (n : Machine). IsRaised n.scenario n.world x turn old new) is h

pub loop-number-preserved : goal.loop-number-preserved
loop-number-preserved c =
    let w = c.args.world.now in
    let l = c.loop-number in
    let n = l.number in
    let new = c.raised.result in
    let long = l.invariant.long in
    let all = c.requires in
    let count = c.leaf_count-number-end.ensures.count ∙ ap (λ (s : Scenario). length (components s)) c.table.ensures in
    let test = c.loop-number-test.true in
    let less : n < length l.peaks = omega (arith, test, count, all, long) in
    let here = in_world c.machine.result.now w.scenario w.world c.new-leaf.result c.args.turn _ new c.machine.ensures.is c.raised.ensures in
    record {
      long = length_set l.peaks n new ∙ long;
      raised = raised_more w.scenario w.world c.args.turn n c.new-leaf.result c.args.peaks.now l.peaks _ new c.new-leaf.ensures less here l.invariant.raised
          l.invariant.others;
      others = later_more l.peaks c.args.peaks.now n new l.invariant.others;
    }

pub returns : goal.returns
returns c =
    let l = c.loop-number in
    let long = l.invariant.long in
    let all = c.requires in
    let count = c.leaf_count-number-end.ensures.count ∙ ap (λ (s : Scenario). length (components s)) c.table.ensures in
    let over = c.loop-number-test.false in
    record {
      long = long;
      raised = λ x p q was now. (let less = within c.args.peaks.now x p was in l.invariant.raised x p q (omega (arith, less, over, count, all)) was now);
    }
