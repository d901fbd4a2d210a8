use Rattle.std.proofs.Common.{◌≡◌, ◌+◌, ◌++◌, drop}
use Rattle.gq_model.specs.machine.Accounts.{leaf_count}
use Rattle.gq_model.specs.machine.Scenario.{system}
use Rattle.gq_model.specs.rules.Accept.{budgets}
use Rattle.gq_scenario.specs.Sizes.{node_count}
use Rattle.gq_scenario.specs.Component_trees.{nodes_of}
use Rattle.gq_views.specs.Tree.{nodes_text}
use Rattle.gq_views.proofs.tree.+push_nodes.Given as goal

abbrev pub decreases-push_nodes : goal.decreases-push_nodes
decreases-push_nodes l = node_count l.nodes.now

-- the lines so far, with those of the nodes that are left, are all
abbrev pub invariant-loop-node : goal.invariant-loop-node
invariant-loop-node l =
    record {
      reported :
          l.text.items ++ nodes_text l.drawn.version (system l.drawn) (budgets l.drawn) l.depth l.place (nodes_of (drop l.node-index l.node-items))
          ≡ l.fn.text.items ++ nodes_text l.drawn.version (system l.drawn) (budgets l.drawn) l.depth l.first (nodes_of l.node-items);
      leaves : l.place + leaf_count (nodes_of (drop l.node-index l.node-items)) ≡ l.first + leaf_count (nodes_of l.node-items);
    }
