-- The machine at the start of a scenario.
use Rattle.gq_machine.specs.declared.machine_state.Fixed.{Fixed}
use Rattle.gq_machine.proofs.Machine_start.{first_world, holds_first}
use Rattle.gq_machine.proofs.machine.Machine.new.Goals as goal

pub invariant_of-result : goal.invariant_of-result
invariant_of-result c =
    let f : Fixed = record { table = c.args.table; prepared = c.in-Ok.parts.1.0; services = c.in-Ok.parts.1.1 } in
    holds_first f c.in-Ok.parts.0 c.requires.ready c.in-Ok.ensures.leaves c.in-Ok.ensures.slots c.in-Ok.ensures.prepared c.in-Ok.ensures.services

pub returns-in-Ok-clause-world : goal.returns-in-Ok-clause-world
returns-in-Ok-clause-world c =
    let m = c.in-Ok.parts.0 in first_world c.args.table m.leaves.items m.slots c.in-Ok.ensures.leaves c.in-Ok.ensures.slots
