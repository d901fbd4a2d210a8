use Rattle.std.proofs.Common.{◌≡◌, drop}
use Rattle.gq_model.specs.rules.Resolve.{after_of}
use Rattle.gq_resolve.proofs.start_after.after_of.Given as goal

abbrev pub invariant-loop-component : goal.invariant-loop-component
invariant-loop-component l = after_of l.name l.components ≡ after_of l.name (drop l.component-index l.components)
