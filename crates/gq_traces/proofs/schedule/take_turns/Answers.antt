-- Turns so far, and one more.
use Rattle.std.proofs.Common.{◌≡◌, ◌∙◌, refl, sym, subst, true}
use Rattle.gq_machine.specs.Events.{event_of}
use Rattle.gq_model.specs.machine.Scenario.{Scenario, system}
use Rattle.gq_model.specs.machine.Rest.{can_run}
use Rattle.gq_traces.specs.internal.Takes.{TakesTurn}
use Rattle.gq_traces.proofs.Repeated_leaf_turns.{come_first, come_on}
use Rattle.gq_traces.proofs.schedule.take_turns.Goals as goal

pub loop-taken-init : goal.loop-taken-init
loop-taken-init c =
    let old = c.args.world.now in
    record { scenario = refl; running = c.requires.running; signals = refl; come = come_first (system old.scenario) c.args.leaf c.args.most old.world }

pub loop-taken-preserved : goal.loop-taken-preserved
loop-taken-preserved c =
    let old = c.args.world.now in
    let l = c.loop-taken in
    let t = c.step-event in
    let v = t.new.self in
    let can = sym c.can_run.ensures ∙ c.if-can_run.true in
    let x = c.args.leaf in
    record {
      scenario = t.ensures.scenario ∙ l.invariant.scenario;
      running = t.ensures.stopped;
      signals = t.ensures.signals ∙ l.invariant.signals;
      come = come_on (system old.scenario) x c.args.most l.taken old.world l.world.world v.world c.loop-taken-test.true
          (subst (λ (s : Scenario). can_run (system s) l.world.world x ≡ true) l.invariant.scenario can)
          (subst (λ (s : Scenario). TakesTurn (system s) x l.world.world v.world) l.invariant.scenario (record {
            event = event_of t.result t.new.line.items;
            goes = t.ensures.stepped;
          })) l.invariant.come;
    }
