use Rattle.std.proofs.Common.{rules}
use Rattle.gq_statements.proofs.actor.Actor.slot_id.Goals as goal

pub returns-in-Shared-Some-clause-is : goal.returns-in-Shared-Some-clause-is
returns-in-Shared-Some-clause-is c = search rules
