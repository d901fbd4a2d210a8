use Rattle.std.proofs.Common.{◌≡◌, ◌++◌, drop}
use Rattle.gq_outcomes.specs.internal.Keys.{each_key, number_key, text_key}
use Rattle.gq_outcomes.proofs.encoding.push_numbers.Given as goal

-- the bytes so far, with those of what is left, are all
abbrev pub invariant-loop-number : goal.invariant-loop-number
invariant-loop-number l = l.key.items ++ each_key number_key (drop l.number-index l.numbers) ≡ l.fn.key.items ++ text_key l.numbers
