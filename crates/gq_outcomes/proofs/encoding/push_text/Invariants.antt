use Rattle.std.proofs.Common.{◌≡◌, ◌++◌, drop}
use Rattle.gq_outcomes.specs.internal.Keys.{each_key, number_key, text_key}
use Rattle.gq_outcomes.proofs.encoding.push_text.Given as goal

-- the bytes so far, with those of what is left, are all
abbrev pub invariant-loop-byte : goal.invariant-loop-byte
invariant-loop-byte l = l.key.items ++ each_key number_key (drop l.byte-index l.text) ≡ l.fn.key.items ++ text_key l.text
