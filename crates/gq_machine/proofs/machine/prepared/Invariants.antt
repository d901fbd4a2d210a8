-- What is prepared of the leaves so far.
use Rattle.gq_machine.specs.internal.Starts.{ArePrepared}
use Rattle.gq_machine.proofs.machine.prepared.Given as goal

abbrev pub invariant-loop-number : goal.invariant-loop-number
invariant-loop-number l = ArePrepared l.table l.number l.leaves l.prepared.items
