-- The phase in which a leaf starts.
use Rattle.gq_machine.proofs.First_machine_leaves.{runs, waits}
use Rattle.gq_machine.proofs.machine.first_phase.Goals as goal

pub returns-in-None : goal.returns-in-None
returns-in-None c = runs c.args.table.now c.args.leaf c.after.result c.requires.ready c.requires.leaf c.after.ensures c.in-None.is

pub returns-in-Some : goal.returns-in-Some
returns-in-Some c = waits c.args.table.now c.args.leaf c.in-Some.field-0 c.after.result c.requires.leaf c.after.ensures c.in-Some.is
