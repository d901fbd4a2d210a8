use Rattle.std.proofs.Common.{◌≡◌, drop}
use Rattle.gq_model.specs.machine.Routes.{numbered}
use Rattle.gq_resolve.proofs.routes.numbered.Given as goal

abbrev pub invariant-loop-place : goal.invariant-loop-place
invariant-loop-place l = numbered 0 l.name l.components ≡ numbered l.place l.name (drop l.place l.components)
