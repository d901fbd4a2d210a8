-- A byte of a slot.
use Rattle.std.proofs.Common.{sym}
use Rattle.gq_machine.proofs.Machine_session_reads.{slot_id_there}
use Rattle.gq_machine.proofs.Machine_slot_bytes.{byte_inside, byte_read, no_extent}
use Rattle.gq_machine.proofs.machine.Machine.byte.Goals as goal

pub extent-requires : goal.extent-requires
extent-requires c = slot_id_there c.self.inside c.args.self.now c.self.view_is c.self.invariant c.lawful.ensures c.args.slot_id c.requires.there

pub read-requires-clause-inside : goal.read-requires-clause-inside
read-requires-clause-inside c = byte_inside c.self.inside c.args.self.now c.self.view_is c.self.invariant c.lawful.ensures c.args.slot_id c.requires.there
    c.args.index
    c.requires.inside c.in-Some.extent (sym c.in-Some.ensures)

pub unreachable-requires : goal.unreachable-requires
unreachable-requires c = no_extent c.self.inside c.args.self.now c.self.view_is c.self.invariant c.lawful.ensures c.args.slot_id c.requires.there c.args.index
    c.requires.inside (sym c.in-None.ensures)

pub returns : goal.returns
returns c = byte_read c.self.inside c.args.self.now c.self.view_is c.self.invariant c.lawful.ensures c.args.slot_id c.requires.there c.args.index
    c.requires.inside
    c.in-Some.extent (sym c.in-Some.ensures) c.read.result c.read.ensures
