use Rattle.std.proofs.Common.{◌≡◌, ◌++◌, drop, option_map}
use Rattle.gq_model.specs.machine.Scenario.{components_of}
use Rattle.gq_scenario.specs.Sizes.{node_count}
use Rattle.gq_scenario.specs.Component_trees.{nodes_of}
use Rattle.gq_resolve.proofs.component.+push_components.Given as goal

abbrev pub decreases-push_components : goal.decreases-push_components
decreases-push_components l = node_count l.siblings.now

abbrev pub invariant-loop-node : goal.invariant-loop-node
invariant-loop-node l =
    l.components.items ++ components_of l.label (option_map (λ r. r.now) l.default_routes) l.siblings l.above (nodes_of (drop l.node-index l.node-items))
    ≡ l.fn.components.items ++ components_of l.label (option_map (λ r. r.now) l.default_routes) l.siblings l.above (nodes_of l.node-items)
