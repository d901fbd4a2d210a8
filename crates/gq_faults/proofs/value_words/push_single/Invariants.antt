use Rattle.std.proofs.Common.{◌≡◌, ◌==◌, ◌++◌, not, filter, drop}
use Rattle.gq_faults.proofs.value_words.push_single.Given as goal

abbrev pub invariant-loop-byte : goal.invariant-loop-byte
invariant-loop-byte l =
    l.text.items ++ filter (λ c. not (c == 10)) (drop l.byte-index l.words) ≡ l.fn.text.items ++ filter (λ c. not (c == 10)) l.words
