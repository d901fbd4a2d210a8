use Rattle.std.proofs.Common.{rules}
use Rattle.gq_slots.proofs.slots.Slots.found.Goals as goal

pub returns-in-InSession : goal.returns-in-InSession
returns-in-InSession c = search rules
