use Rattle.std.proofs.Common.{◌≡◌, ◌++◌, drop, map}
use Rattle.gq_outcomes.specs.Outcomes.{lines_of}
use Rattle.gq_outcomes.proofs.text.push_lines.Given as goal

-- the lines so far, with those of the leaves that are left, are all
abbrev pub invariant-loop-lines : goal.invariant-loop-lines
invariant-loop-lines l =
    l.text.items ++ lines_of (map (λ v. v.items) (drop l.lines-index l.said)) ≡ l.fn.text.items ++ lines_of (map (λ v. v.items) l.said)
