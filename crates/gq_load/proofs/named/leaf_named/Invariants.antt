use Rattle.std.proofs.Common.{◌≡◌, drop}
use Rattle.gq_load.specs.Named.{leaf_named}
use Rattle.gq_load.proofs.named.leaf_named.Given as goal

abbrev pub invariant-loop-component : goal.invariant-loop-component
invariant-loop-component l = leaf_named l.name l.components ≡ leaf_named l.name (drop l.component-index l.components)
