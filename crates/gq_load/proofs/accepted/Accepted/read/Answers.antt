use Rattle.std.proofs.Common.{rules}
use Rattle.gq_load.proofs.First_refusal_reason.{refuses_or}
use Rattle.gq_load.proofs.accepted.Accepted.read.Goals as goal

pub returns-in-Err-Fault-clause-refused : goal.returns-in-Err-Fault-clause-refused
returns-in-Err-Fault-clause-refused c = search rules

pub returns-in-Ok-clause-refused : goal.returns-in-Ok-clause-refused
returns-in-Ok-clause-refused c = search (rules, refuses_or)
