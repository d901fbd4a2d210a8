use Rattle.std.proofs.Common.{◌≡◌, drop}
use Rattle.gq_model.specs.machine.Routes.{route}
use Rattle.gq_resolve.proofs.routing.route.Given as goal

abbrev pub invariant-loop-level : goal.invariant-loop-level
invariant-loop-level l = route l.levels l.service ≡ route (drop l.level-index l.levels) l.service
