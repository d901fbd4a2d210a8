use Rattle.gq_init.proofs.First_turn_line.{AreDigits}
use Rattle.gq_init.proofs.turns.count_ahead.Given as goal

-- what was looked at is digits that spell the number
abbrev pub invariant-loop-place : goal.invariant-loop-place
invariant-loop-place l = AreDigits l.text l.place l.number
