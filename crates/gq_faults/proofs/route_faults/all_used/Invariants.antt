use Rattle.std.proofs.Common.{◌≡◌, ◌++◌, map, drop}
use Rattle.gq_faults.specs.Uses.{used_of}
use Rattle.gq_faults.proofs.route_faults.all_used.Given as goal

abbrev pub invariant-loop-place : goal.invariant-loop-place
invariant-loop-place l =
    map (λ v. v.items) l.all.items ++ map (used_of l.components) (drop l.place l.components) ≡ map (used_of l.components) l.components
