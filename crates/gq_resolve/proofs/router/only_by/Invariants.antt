use Rattle.std.proofs.Common.{◌≡◌, ◌++◌, drop}
use Rattle.gq_model.specs.machine.Routes.{providers, only}
use Rattle.gq_resolve.specs.Routing.{led_found}
use Rattle.gq_scenario.specs.Component_trees.{nodes_of}
use Rattle.gq_resolve.proofs.router.only_by.Given as goal

abbrev pub invariant-loop-place : goal.invariant-loop-place
invariant-loop-place l = only (providers l.service (nodes_of l.nodes)) ≡ only (led_found l.found ++ providers l.service (nodes_of (drop l.place l.nodes)))
