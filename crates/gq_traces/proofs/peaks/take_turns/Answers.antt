-- More turns.
use Rattle.std.proofs.Common.{◌≡◌, ◌∙◌, ◌+◌, ◌<◌, ap, arith, length, refl, subst, sym}
use Rattle.gq_model.specs.machine.Run.{turns_of}
use Rattle.gq_model.specs.machine.Scenario.{Scenario, components, system}
use Rattle.gq_traces.specs.internal.Peaking.{HasTurns, Peaked}
use Rattle.gq_traces.proofs.Peaks_kept.{peaked_none, turns_then}
use Rattle.gq_traces.proofs.peaks.take_turns.Goals as goal

pub loop-done-init : goal.loop-done-init
loop-done-init c =
    let w = c.args.world.now in
    let n = c.args.turns in
    let none : n ≡ n + 0 = omega arith in
    record {
      few = omega arith;
      peaked = subst (λ m. Peaked 0 (λ runs now. HasTurns (system w.scenario) c.args.leaf runs n now 0) (turns_of (system w.scenario) c.args.leaf 0) n m w w
          c.args.peaks.now c.args.peaks.now) none
          (peaked_none (λ runs now. HasTurns (system w.scenario) c.args.leaf runs n now 0) (turns_of (system w.scenario) c.args.leaf 0) n w c.args.peaks.now
          c.requires.running (λ now. refl));
    }

pub loop-done-preserved : goal.loop-done-preserved
loop-done-preserved c =
    let w = c.args.world.now in
    let l = c.loop-done in
    let took = c.take_some-done in
    let few = took.ensures.few in
    let within = l.invariant.few in
    let test = c.loop-done-test.true in
    record {
      few = omega (arith, few, within, test);
      peaked = turns_then w l.world took.new.world c.args.leaf c.args.turns l.done took.result (l.done + took.result) c.args.peaks.now l.peaks
          took.new.peaks refl l.invariant.peaked
          (subst (λ n. Peaked 0 (λ runs now. HasTurns (system l.world.scenario) c.args.leaf runs (c.args.turns + n) now took.result) (turns_of (system
          l.world.scenario) c.args.leaf took.result) (c.args.turns + n) (c.args.turns + n + took.result) l.world took.new.world l.peaks took.new.peaks)
          c.from.ensures took.ensures.peaked);
    }

pub returns : goal.returns
returns c =
    let w = c.args.world.now in
    let l = c.loop-done in
    let over = c.loop-done-test.false in
    let few = l.invariant.few in
    let same : l.done ≡ c.args.count = omega (arith, over, few) in
    subst (λ m. Peaked 0 (λ runs now. HasTurns (system w.scenario) c.args.leaf runs c.args.turns now m) (turns_of (system w.scenario) c.args.leaf m)
    c.args.turns
    (c.args.turns + m) w l.world c.args.peaks.now l.peaks) same l.invariant.peaked

pub take_some-done-requires-clause-leaf : goal.take_some-done-requires-clause-leaf
take_some-done-requires-clause-leaf c =
    subst (λ (s : Scenario). c.args.leaf < length (components s)) (sym c.loop-done.invariant.peaked.scenario) c.requires.leaf

pub take_some-done-requires-clause-running : goal.take_some-done-requires-clause-running
take_some-done-requires-clause-running c = c.loop-done.invariant.peaked.running

pub take_some-done-requires-clause-long : goal.take_some-done-requires-clause-long
take_some-done-requires-clause-long c =
    let h = c.loop-done.invariant.peaked in h.long ∙ (c.requires.long ∙ sym (ap (λ (s : Scenario). length (components s)) h.scenario))
