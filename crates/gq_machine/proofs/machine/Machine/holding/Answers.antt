-- What a slot holds.
use Rattle.gq_machine.proofs.Machine_session_reads.{holding_read, slot_id_there}
use Rattle.gq_machine.proofs.machine.Machine.holding.Goals as goal

pub content-requires : goal.content-requires
content-requires c = slot_id_there c.self.inside c.args.self.now c.self.view_is c.self.invariant c.lawful.ensures c.args.slot_id c.requires

pub returns : goal.returns
returns c =
    holding_read c.self.inside c.args.self.now c.self.view_is c.self.invariant c.lawful.ensures c.args.slot_id c.content.result c.holding_of.result
    c.content.ensures.reads
    c.holding_of.ensures
