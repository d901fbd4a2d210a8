use Rattle.gq_scenario.specs.Sizes.{node_count}
use Rattle.gq_faults.proofs.leaf_tables.+push_leaves.Given as goal

abbrev pub decreases-push_leaves : goal.decreases-push_leaves
decreases-push_leaves l = node_count l.nodes.now
