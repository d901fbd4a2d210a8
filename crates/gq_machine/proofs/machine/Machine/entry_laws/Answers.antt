-- The bytes of an entry that is there.
use Rattle.gq_machine.proofs.Machine_entry_lengths.{entry_long}
use Rattle.gq_machine.proofs.machine.Machine.entry_laws.Goals as goal

pub returns : goal.returns
returns c = entry_long c.self.inside c.args.self.now c.self.view_is c.self.invariant c.lawful.ensures c.args.slot_id c.requires c.args.index
