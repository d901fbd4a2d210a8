-- Whether a slot marks that a reply is awaited.
use Rattle.gq_machine.specs.Readers.{awaits}
use Rattle.gq_machine.proofs.Machine_register_reads.{slot_read}
use Rattle.gq_machine.proofs.machine.Machine.awaits.Goals as goal

pub returns : goal.returns
returns c =
    slot_read c.self.inside c.args.self.now c.self.view_is c.self.invariant awaits c.args.slot_id c.content.result c.awaits.result c.content.ensures.reads
    c.awaits.ensures
