use Rattle.std.proofs.Common.{◌≡◌, ◌++◌, drop}
use Rattle.gq_model.specs.machine.Scenario.{System}
use Rattle.gq_sizes.specs.Passing.{endless_from, endless_owns}
use Rattle.gq_sizes.proofs.unending.endless_leaves.Given as goal

-- those so far, with those of the leaves that are left, are all
abbrev pub invariant-loop-leaf : goal.invariant-loop-leaf
invariant-loop-leaf l =
    (all : System) → l.components ≡ all.components → l.owns ≡ endless_owns all all.components →
    l.endless.items ++ endless_from all l.leaf (drop l.leaf l.components) ≡ endless_from all 0 l.components
