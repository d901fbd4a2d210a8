-- The leaves so far, and what they hold.
use Rattle.gq_machine.proofs.Machine_reader_values.{IsSum}
use Rattle.gq_machine.proofs.machine.Machine.used_before.Given as goal

abbrev pub invariant-loop-number : goal.invariant-loop-number
invariant-loop-number l = IsSum l.self l.number l.sum
