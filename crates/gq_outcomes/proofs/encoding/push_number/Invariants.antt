use Rattle.std.proofs.Common.{◌≡◌, ◌++◌}
use Rattle.gq_outcomes.specs.internal.Keys.{number_key}
use Rattle.gq_outcomes.proofs.encoding.push_number.Given as goal

-- the bytes so far, with those of what is left, are all
abbrev pub invariant-loop-left : goal.invariant-loop-left
invariant-loop-left l = l.key.items ++ number_key l.left ≡ l.fn.key.items ++ number_key l.number

abbrev pub decreases-loop-left : goal.decreases-loop-left
decreases-loop-left l = l.left
