use Rattle.std.proofs.Common.{◌≡◌}
use Rattle.std.specs.Slice.Iter.{iter_rest}
use Rattle.std.specs.Iterator.Adapters.{zip_first, zip_second}
use Rattle.gq_sizes.specs.Endless.{leaf_holds}
use Rattle.gq_sizes.specs.Passing.{held_of, passing}
use Rattle.gq_sizes.proofs.endless.holds.Given as goal

-- one is among the leaves that are left
abbrev pub invariant-loop-component : goal.invariant-loop-component
invariant-loop-component l =
    held_of (λ v. leaf_holds (passing l.sessions.interfaces.now l.sessions.tests.now) v l.level) l.service
    (iter_rest (zip_first l.component-iterator)) (iter_rest (zip_second l.component-iterator))
    ≡ held_of (λ v. leaf_holds (passing l.sessions.interfaces.now l.sessions.tests.now) v l.level) l.service l.components l.leaves
