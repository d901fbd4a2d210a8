-- What stands before `rest` is scenario; each turn takes a line off `rest`.
use Rattle.std.proofs.Common.{length}
use Rattle.gq_command.proofs.Stored_laws.{IsParted}
use Rattle.gq_command.proofs.stored.parted.Given as goal

abbrev pub invariant-loop-rest : goal.invariant-loop-rest
invariant-loop-rest l = IsParted l.input l.rest

abbrev pub decreases-loop-rest : goal.decreases-loop-rest
decreases-loop-rest l = length l.rest
