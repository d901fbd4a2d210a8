use Rattle.std.proofs.Common.{◌≡◌, ◌++◌, drop}
use Rattle.gq_model.specs.machine.Routes.{providers, only}
use Rattle.gq_resolve.specs.Routing.{led_found}
use Rattle.gq_scenario.specs.Component_trees.{nodes_of}
use Rattle.gq_resolve.proofs.routing.only_provider.Given as goal

abbrev pub invariant-loop-node : goal.invariant-loop-node
invariant-loop-node l = only (providers l.service (nodes_of l.node-items))
    ≡ only (led_found l.found ++ providers l.service (nodes_of (drop l.node-index l.node-items)))
