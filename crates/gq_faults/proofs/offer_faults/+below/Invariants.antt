use Rattle.std.proofs.Common.{◌≡◌, ◌+◌, ◌*◌, ◌∷◌, [], ◌++◌, map, drop}
use Rattle.gq_model.specs.texts.Fault_texts.{unresolved_text}
use Rattle.gq_scenario.specs.Sizes.{node_count}
use Rattle.gq_scenario.specs.Component_trees.{nodes_of}
use Rattle.gq_faults.specs.Scenario_faults.{all_bad_offers}
use Rattle.gq_faults.specs.Found_lines.{lines_found}
use Rattle.gq_faults.proofs.offer_faults.+below.Given as goal

abbrev pub decreases-push_below : goal.decreases-push_below
decreases-push_below l = 2 * node_count (nodes_of l.nodes.now) + 1

abbrev pub decreases-push_node : goal.decreases-push_node
decreases-push_node l = 2 * node_count (nodes_of (l.node.now ∷ []))

abbrev pub invariant-push_below-loop-index : goal.invariant-push_below-loop-index
invariant-push_below-loop-index l =
    lines_found l.found.items ++ map unresolved_text (all_bad_offers l.interfaces (nodes_of (drop l.index l.nodes)))
    ≡ lines_found l.fn.found.items ++ map unresolved_text (all_bad_offers l.interfaces (nodes_of l.nodes))
