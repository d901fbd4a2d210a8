use Rattle.std.proofs.Common.{◌≡◌, [], take, drop}
use Rattle.gq_model.specs.rules.Resolve.{after_fault}
use Rattle.gq_resolve.specs.internal.Afters.{named_by}
use Rattle.gq_resolve.proofs.start_after.check_after.Given as goal

abbrev pub invariant-loop-place : goal.invariant-loop-place
invariant-loop-place l = after_fault l.components (named_by [] (take l.place l.components)) (drop l.place l.components)
    ≡ after_fault l.components [] l.components
