-- A byte of an entry.
use Rattle.std.proofs.Common.{◌∙◌, ap, sym}
use Rattle.gq_model.specs.machine.Memory.{entry_byte}
use Rattle.gq_machine.proofs.Machine_session_reads.{slot_id_there}
use Rattle.gq_machine.proofs.Machine_slot_bytes.{entry_byte_inside, entry_read}
use Rattle.gq_machine.proofs.machine.Machine.entry_byte.Goals as goal

pub peek-requires-clause-there : goal.peek-requires-clause-there
peek-requires-clause-there c = slot_id_there c.self.inside c.args.self.now c.self.view_is c.self.invariant c.lawful.ensures c.args.slot_id c.requires.there

pub peek-requires-clause-inside : goal.peek-requires-clause-inside
peek-requires-clause-inside c = entry_byte_inside c.self.inside c.args.self.now c.self.view_is c.self.invariant c.lawful.ensures c.args.slot_id
    c.requires.there c.args.index c.args.offset c.requires.inside

pub returns : goal.returns
returns c =
    c.peek.ensures ∙ ap (λ o. entry_byte o c.args.offset) (sym (entry_read c.self.inside c.args.self.now c.self.view_is c.self.invariant c.lawful.ensures
    c.args.slot_id c.requires.there c.args.index))
