use Rattle.std.proofs.Common.{◌≡◌, drop}
use Rattle.gq_sizes.specs.Size.{starts_after}
use Rattle.gq_sizes.proofs.leaf_needs.starts_after.Given as goal

-- it is among those that are left
abbrev pub invariant-loop-place : goal.invariant-loop-place
invariant-loop-place l = starts_after l.name (drop l.place l.components) ≡ starts_after l.name l.components
