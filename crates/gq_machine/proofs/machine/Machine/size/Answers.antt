-- How many bytes there are.
use Rattle.gq_machine.proofs.Machine_slot_bytes.{size_read}
use Rattle.gq_machine.proofs.Machine_session_reads.{slot_id_there}
use Rattle.gq_machine.proofs.machine.Machine.size.Goals as goal

pub content-content-requires : goal.content-content-requires
content-content-requires c = slot_id_there c.self.inside c.args.self.now c.self.view_is c.self.invariant c.lawful.ensures c.args.slot_id c.requires

pub returns-clause-size : goal.returns-clause-size
returns-clause-size c = size_read c.self.inside c.args.self.now c.self.view_is c.self.invariant c.lawful.ensures c.args.slot_id c.requires c.size.result
    c.content-content.result c.content-content.ensures.is c.size.ensures.size
