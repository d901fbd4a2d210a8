-- A signal keeps what stands, and is counted or stops the world.
use Rattle.std.proofs.Common.{◌<◌, ◌≤◌, IfSome, ap, arith, refl, subst}
use Rattle.std.specs.Prelude.{slice_get}
use Rattle.gq_model.specs.machine.Scenario.{Scenario, components}
use Rattle.gq_world.specs.World_between_turns.{greatest_lines}
use Rattle.gq_world.proofs.World_turn_facts.{kept_by_signal, kept_uncounted, signal_past, signal_there}
use Rattle.gq_world.proofs.world.World.signal.Goals as goal

pub invariant_of-self-then-self-lt-COUNTED_SIGNALS : goal.invariant_of-self-then-self-lt-COUNTED_SIGNALS
unfolding greatest_lines
invariant_of-self-then-self-lt-COUNTED_SIGNALS c =
    let m = c.self.inside.machine in
    kept_by_signal m.scenario c.submit.new.self.scenario m.world c.submit.new.self.world c.self.inside.budgets.items c.self.inside.stopped
    c.self.inside.signals c.args.leaf c.args.signal c.submit.ensures.scenario c.submit.ensures.submitted c.if-self-lt-COUNTED_SIGNALS.true c.self.invariant

pub invariant_of-self-else-self-lt-COUNTED_SIGNALS : goal.invariant_of-self-else-self-lt-COUNTED_SIGNALS
invariant_of-self-else-self-lt-COUNTED_SIGNALS c =
    let m = c.self.inside.machine in
    kept_uncounted m.scenario c.submit.new.self.scenario m.world c.submit.new.self.world c.self.inside.budgets.items c.self.inside.stopped
    c.self.inside.signals c.args.leaf c.args.signal c.submit.ensures.scenario c.submit.ensures.submitted c.self.invariant

pub returns-else-self-lt-COUNTED_SIGNALS-clause-running : goal.returns-else-self-lt-COUNTED_SIGNALS-clause-running
unfolding greatest_lines
returns-else-self-lt-COUNTED_SIGNALS-clause-running c running less =
    let same = ap (λ w. w.signals) c.self.view_is in
    absurd (omega (arith, less, same, c.if-self-lt-COUNTED_SIGNALS.false))

pub returns-in_err-submit-clause-refused : goal.returns-in_err-submit-clause-refused
returns-in_err-submit-clause-refused c err =
    let m = c.self.inside.machine in
    subst (λ (s : Scenario). IfSome (slice_get (components s) c.args.leaf) (λ k. k.node.signals ≤ c.args.signal)) (ap (λ w. w.scenario) c.self.view_is)
    (signal_past m.scenario m.world c.args.leaf c.args.signal c.self.invariant.budgeted.stands (c.in_err-submit.ensures.refused refl))

pub returns-then-self-lt-COUNTED_SIGNALS-clause-allowed : goal.returns-then-self-lt-COUNTED_SIGNALS-clause-allowed
returns-then-self-lt-COUNTED_SIGNALS-clause-allowed c ok =
    let m = c.self.inside.machine in
    subst (λ (s : Scenario). IfSome (slice_get (components s) c.args.leaf) (λ k. c.args.signal < k.node.signals)) (ap (λ w. w.scenario) c.self.view_is)
    (signal_there m.scenario m.world c.args.leaf c.args.signal c.self.invariant.budgeted.stands (c.in_ok-submit.ensures.allowed refl))

pub returns-else-self-lt-COUNTED_SIGNALS-clause-allowed : goal.returns-else-self-lt-COUNTED_SIGNALS-clause-allowed
returns-else-self-lt-COUNTED_SIGNALS-clause-allowed c ok =
    let m = c.self.inside.machine in
    subst (λ (s : Scenario). IfSome (slice_get (components s) c.args.leaf) (λ k. c.args.signal < k.node.signals)) (ap (λ w. w.scenario) c.self.view_is)
    (signal_there m.scenario m.world c.args.leaf c.args.signal c.self.invariant.budgeted.stands (c.in_ok-submit.ensures.allowed refl))
