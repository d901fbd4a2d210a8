use Rattle.std.proofs.Common.{◌≡◌, max}
use Rattle.std.specs.Slice.Iter.{iter_rest}
use Rattle.std.specs.Iterator.Adapters.{zip_first, zip_second}
use Rattle.gq_model.specs.machine.Amounts.{Caps}
use Rattle.gq_model.specs.machine.Scenario.{Interface}
use Rattle.gq_verify.specs.Saturated_numbers.{saturated}
use Rattle.gq_sizes.specs.Size.{leaf_needed}
use Rattle.gq_sizes.specs.Point_maxima.{given_in}
use Rattle.gq_sizes.specs.Needing.{needed_of}
use Rattle.gq_sizes.proofs.needs.needed_caps.Given as goal

-- the most so far, with that of the leaves that are left, is that of all
abbrev pub invariant-loop-component : goal.invariant-loop-component
invariant-loop-component l =
    (i : Interface) →
    max l.most (saturated (needed_of (λ v. leaf_needed (given_in l.given.interfaces.now l.given.sums.now) Caps v i l.level) l.service
    (iter_rest (zip_first l.component-iterator)) (iter_rest (zip_second l.component-iterator))))
    ≡ saturated (needed_of (λ v. leaf_needed (given_in l.given.interfaces.now l.given.sums.now) Caps v i l.level) l.service l.components l.leaves)
