use Rattle.gq_machine.specs.internal.Endings.{AreReleasedBelow}
use Rattle.gq_machine.proofs.main_end.release_after.Given as goal

-- the leaves that were looked at are released
abbrev pub invariant-loop-place : goal.invariant-loop-place
invariant-loop-place l = AreReleasedBelow l.table l.number l.place l.fn.leaves.items l.leaves.items
