-- Whether an entry is there.
use Rattle.std.proofs.Common.{sym, subst, ◌≡◌, Option, List, ℕ, None, false}
use Rattle.std.specs.Prelude.{◌↔◌}
use Rattle.gq_machine.proofs.Machine_session_reads.{slot_id_there}
use Rattle.gq_machine.proofs.Machine_slot_bytes.{entry_inside, entry_read}
use Rattle.gq_machine.proofs.machine.Machine.has_entry.Goals as goal

pub has_entry-requires-clause-there : goal.has_entry-requires-clause-there
has_entry-requires-clause-there c = slot_id_there c.self.inside c.args.self.now c.self.view_is c.self.invariant c.lawful.ensures c.args.slot_id c.requires.there

pub has_entry-requires-clause-inside : goal.has_entry-requires-clause-inside
has_entry-requires-clause-inside c = entry_inside c.self.inside c.args.self.now c.self.view_is c.self.invariant c.lawful.ensures c.args.slot_id
    c.requires.there c.args.index c.requires.inside

pub returns : goal.returns
returns c =
    subst (λ (o : Option (List ℕ)). (c.has_entry.result ≡ false) ↔ (o ≡ None))
    (sym (entry_read c.self.inside c.args.self.now c.self.view_is c.self.invariant c.lawful.ensures c.args.slot_id c.requires.there c.args.index))
    c.has_entry.ensures
