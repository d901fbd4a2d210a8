-- A step keeps what stands.
use Rattle.std.proofs.Common.{◌∙◌, arith}
use Rattle.gq_machine.specs.Events.{event_of}
use Rattle.gq_world.proofs.World_turn_facts.{defined, kept_by_step, taken_once}
use Rattle.gq_world.proofs.world.World.try_step.Goals as goal

pub step-requires-clause-defined : goal.step-requires-clause-defined
step-requires-clause-defined c = defined c.accepted_laws.ensures.promises c.self.inside.machine.scenario c.self.inside.machine.world c.args.leaf
    c.self.invariant.budgeted.stands

pub invariant_of-self : goal.invariant_of-self
invariant_of-self c =
    let m = c.self.inside.machine in
    kept_by_step c.accepted_laws.ensures.kept m.scenario c.step.new.self.scenario m.world c.step.new.self.world c.self.inside.budgets.items
    c.self.inside.stopped c.self.inside.signals c.args.leaf (event_of c.step.result c.step.new.line.items) c.step.ensures.scenario c.step.ensures.stepped
    c.self.invariant

pub returns-clause-counted : goal.returns-clause-counted
returns-clause-counted c full =
    let same = taken_once c.args.self.now.world c.args.leaf c.steps.result 18446744073709551615 c.steps.ensures full in
    let less = c.can_count.ensures.can c.if-not-can_count.false in
    absurd (omega (arith, same, less))
