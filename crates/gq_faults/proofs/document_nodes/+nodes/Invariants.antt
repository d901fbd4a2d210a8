use Rattle.std.proofs.Common.{◌≡◌, ◌+◌, ◌*◌, ◌++◌, map, drop}
use Rattle.toml.specs.View.{items_view}
use Rattle.gq_scenario.specs.Table_keys.{listed}
use Rattle.gq_faults.specs.Documents.{in_tables, nodes_below}
use Rattle.gq_faults.specs.Document_nodes.{node_of}
use Rattle.gq_faults.proofs.document_nodes.+nodes.Given as goal

abbrev pub decreases-push_node : goal.decreases-push_node
decreases-push_node l = 3 * l.levels

abbrev pub decreases-push_value : goal.decreases-push_value
decreases-push_value l = 3 * l.levels + 1

abbrev pub decreases-push_nodes : goal.decreases-push_nodes
decreases-push_nodes l = 3 * l.levels + 2

abbrev pub invariant-push_nodes-loop-index : goal.invariant-push_nodes-loop-index
invariant-push_nodes-loop-index l =
    map node_of l.nodes.items ++ in_tables (nodes_below l.levels) (listed (items_view (drop l.index l.values)))
    ≡ map node_of l.fn.nodes.items ++ in_tables (nodes_below l.levels) (listed (items_view l.values))
