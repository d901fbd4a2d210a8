use Rattle.std.proofs.Common.{◌≡◌, ◌++◌, drop, map}
use Rattle.gq_sizes.specs.Donated.{leaf_donated, leaf_list}
use Rattle.gq_sizes.specs.Point_maxima.{given_in}
use Rattle.gq_sizes.proofs.donations.all_donations.Given as goal

-- the leaves so far, with those that are left, are all
abbrev pub invariant-loop-verified : goal.invariant-loop-verified
invariant-loop-verified l =
    map leaf_list l.donations.items ++ map (leaf_donated (given_in l.needs.interfaces.now l.needs.sums.now)) (drop l.verified-index l.leaves)
    ≡ map (leaf_donated (given_in l.needs.interfaces.now l.needs.sums.now)) l.leaves
