-- A step keeps what stands.
use Rattle.std.proofs.Common.{◌∙◌, ap, arith, refl}
use Rattle.gq_machine.specs.Events.{event_of}
use Rattle.gq_world.proofs.World_turn_facts.{countable_running, defined, kept_by_step, stepped_in}
use Rattle.gq_world.proofs.world.World.step.Goals as goal

pub step-requires-clause-defined : goal.step-requires-clause-defined
step-requires-clause-defined c = defined c.accepted_laws.ensures.promises c.self.inside.machine.scenario c.self.inside.machine.world c.args.leaf
    c.self.invariant.budgeted.stands

pub step-requires-clause-countable : goal.step-requires-clause-countable
step-requires-clause-countable c =
    let m = c.self.inside.machine in
    countable_running c.accepted_laws.ensures.promises m.scenario m.world
    c.self.inside.budgets.items c.self.inside.stopped c.args.leaf 1
    c.self.inside.signals (omega arith) c.self.invariant (ap (λ w. w.stopped) c.self.view_is ∙ c.requires.running)

pub invariant_of-self : goal.invariant_of-self
invariant_of-self c =
    let m = c.self.inside.machine in
    kept_by_step c.accepted_laws.ensures.kept m.scenario c.step.new.self.scenario m.world c.step.new.self.world
    c.self.inside.budgets.items c.self.inside.stopped c.self.inside.signals c.args.leaf
    (event_of c.step.result c.step.new.line.items) c.step.ensures.scenario c.step.ensures.stepped c.self.invariant

pub returns-clause-stepped : goal.returns-clause-stepped
returns-clause-stepped c =
    let m = c.self.inside.machine in
    stepped_in m.scenario m.world c.step.new.self.world c.step.new.self.world c.args.self.now c.args.leaf (event_of c.step.result c.step.new.line.items)
    (ap (λ w. w.scenario) c.self.view_is) (ap (λ w. w.world) c.self.view_is) refl c.step.ensures.stepped
