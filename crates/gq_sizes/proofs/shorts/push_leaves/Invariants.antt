use Rattle.std.proofs.Common.{◌≡◌, ◌++◌, drop, map}
use Rattle.gq_sizes.specs.Point_maxima.{given_in}
use Rattle.gq_sizes.specs.internal.Short_lines.{leaves_by}
use Rattle.gq_sizes.proofs.shorts.push_leaves.Given as goal

-- the lines so far, with those of the leaves that are left, are all
abbrev pub invariant-loop-place : goal.invariant-loop-place
invariant-loop-place l =
    l.programs ≡ map (λ c. c.node.program) l.components →
    l.text.items ++ leaves_by (given_in l.interfaces l.sums) (drop l.place l.components)
    ≡ l.fn.text.items ++ leaves_by (given_in l.interfaces l.sums) l.components
