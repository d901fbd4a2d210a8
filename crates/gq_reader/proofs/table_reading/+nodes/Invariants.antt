use Rattle.std.proofs.Common.{◌≡◌, ◌+◌, ◌*◌, length}
use Rattle.std.specs.Vec.Iter.{into_iter_items, into_iter_len}
use Rattle.toml.specs.View.{items_view}
use Rattle.gq_scenario.specs.Table_keys.{listed}
use Rattle.gq_scenario.specs.Document.{node_onto, nodes_by}
use Rattle.gq_reader.specs.internal.Faultless_tables.{AreNodes}
use Rattle.gq_scenario.specs.Component_trees.{onto}
use Rattle.gq_reader.proofs.table_reading.+nodes.Given as goal

abbrev pub decreases-read_node : goal.decreases-read_node
decreases-read_node l = 2 * l.levels

abbrev pub decreases-read_nodes : goal.decreases-read_nodes
decreases-read_nodes l = 2 * l.levels + 1

abbrev pub invariant-read_nodes-loop-value : goal.invariant-read_nodes-loop-value
invariant-read_nodes-loop-value l =
    record {
      read : onto l.nodes.items (nodes_by (node_onto l.levels) (listed (items_view (into_iter_items l.value-iterator))))
          ≡ nodes_by (node_onto l.levels) (listed (items_view l.fn.values.items));
      count : into_iter_len l.value-iterator ≡ length (into_iter_items l.value-iterator);
      rest : AreNodes l.levels (listed (items_view (into_iter_items l.value-iterator)));
    }
