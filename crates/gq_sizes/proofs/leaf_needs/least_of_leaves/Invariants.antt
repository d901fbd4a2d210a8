use Rattle.std.proofs.Common.{◌≡◌, ◌++◌, drop, map}
use Rattle.gq_model.specs.machine.Scenario.{System}
use Rattle.gq_sizes.specs.Saturated_tables.{leasts_from, own_least}
use Rattle.gq_sizes.proofs.leaf_needs.least_of_leaves.Given as goal

-- those so far, with those of the leaves that are left, are all
abbrev pub invariant-loop-leaf : goal.invariant-loop-leaf
invariant-loop-leaf l =
    (all : System) → l.components ≡ all.components → l.owns ≡ map (own_least all) all.components →
    l.least.items ++ leasts_from all l.leaf (drop l.leaf l.components) ≡ leasts_from all 0 l.components
