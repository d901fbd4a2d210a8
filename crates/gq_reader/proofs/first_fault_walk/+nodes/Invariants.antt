use Rattle.std.proofs.Common.{◌≡◌, ◌+◌, ◌*◌, drop, option_map}
use Rattle.toml.specs.View.{items_view, table_view}
use Rattle.gq_scenario.specs.Table_keys.{listed}
use Rattle.gq_scenario.specs.Document.{first_of, node_fault, keys_of}
use Rattle.gq_reader.specs.Key_rules.{entries_or_none}
use Rattle.gq_scenario.specs.Component_trees.{version_number}
use Rattle.gq_reader.proofs.first_fault_walk.+nodes.Given as goal

abbrev pub decreases-node_fault : goal.decreases-node_fault
decreases-node_fault l = 2 * l.levels

abbrev pub decreases-nodes_fault : goal.decreases-nodes_fault
decreases-nodes_fault l = 2 * l.levels + 1

abbrev pub invariant-nodes_fault-loop-value : goal.invariant-nodes_fault-loop-value
invariant-nodes_fault-loop-value l =
    first_of (node_fault l.levels (version_number l.version) (keys_of (entries_or_none (option_map (λ t. table_view t.now) l.interfaces))))
    (listed (items_view (drop l.value-index l.values)))
    ≡ first_of (node_fault l.levels (version_number l.version) (keys_of (entries_or_none (option_map (λ t. table_view t.now) l.interfaces))))
    (listed (items_view l.values))
