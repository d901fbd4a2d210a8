-- More turns, each of which is a step.
use Rattle.std.proofs.Common.{◌≡◌, ◌∙◌, ◌+◌, arith, refl, subst, sym}
use Rattle.gq_model.specs.machine.Rest.{while_can}
use Rattle.gq_model.specs.machine.Run.{turns_of}
use Rattle.gq_model.specs.machine.Scenario.{Scenario, system}
use Rattle.gq_traces.specs.internal.Peaking.{HasTurns, Peaked}
use Rattle.gq_traces.proofs.Peaks_kept.{turns_then}
use Rattle.gq_traces.proofs.Repeated_leaf_turns.{come_more}
use Rattle.gq_traces.proofs.peaks.take_able.Goals as goal

pub loop-done-preserved : goal.loop-done-preserved
loop-done-preserved c =
    let w = c.args.world.now in
    let s = system w.scenario in
    let x = c.args.leaf in
    let l = c.loop-done in
    let took = c.take_some-done in
    let few = took.ensures.few in
    let test = c.loop-done-test.true in
    let steps = took.ensures.able (sym c.can_run.ensures ∙ c.if-can_run.true) in
    record {
      come = come_more s x c.args.most l.done took.result w.world l.world.world took.new.world.world (omega (arith, few, test))
          (subst (λ (r : Scenario). while_can took.result (system r) l.world.world x ≡ (took.result, took.new.world.world)) l.invariant.peaked.scenario steps)
          l.invariant.come;
      peaked = turns_then w l.world took.new.world x c.args.turns l.done took.result (l.done + took.result) c.args.peaks.now l.peaks took.new.peaks refl
          l.invariant.peaked
          (subst (λ n. Peaked 0 (λ runs now. HasTurns (system l.world.scenario) x runs (c.args.turns + n) now took.result) (turns_of (system l.world.scenario) x
          took.result) (c.args.turns + n) (c.args.turns + n + took.result) l.world took.new.world l.peaks took.new.peaks) c.from.ensures
          took.ensures.peaked);
    }
