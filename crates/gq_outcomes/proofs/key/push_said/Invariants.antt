use Rattle.std.proofs.Common.{◌≡◌, ◌++◌, drop, map}
use Rattle.gq_outcomes.specs.internal.Keys.{each_key, list_key, text_key}
use Rattle.gq_outcomes.proofs.key.push_said.Given as goal

-- the bytes so far, with those of the lines that are left, are all
abbrev pub invariant-loop-lines : goal.invariant-loop-lines
invariant-loop-lines l =
    let lines = map (λ v. v.items) l.said in
    l.key.items ++ each_key text_key (drop l.lines-index lines) ≡ l.fn.key.items ++ list_key text_key lines
