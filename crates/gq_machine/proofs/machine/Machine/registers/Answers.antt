-- How far a leaf has come.
use Rattle.gq_machine.proofs.Machine_register_reads.{registers_read}
use Rattle.gq_machine.proofs.machine.Machine.registers.Goals as goal

pub returns : goal.returns
returns c =
    registers_read c.self.inside c.args.self.now c.self.view_is c.self.invariant c.args.leaf c.requires c.index.result c.index-2.result.now c.index-2.ensures
    c.index.ensures c.registers.result.now c.registers.ensures
