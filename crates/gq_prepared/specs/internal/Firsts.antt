-- The node that a plan has for each row of a table of nodes.
use Rattle.std.specs.Prelude.{ℕ, Option, Some, None, slice_get}
use Rattle.gq_tariff.specs.declared.amount.Amount.{Amount}
use Rattle.gq_model.specs.machine.Scenario.{Scenario, Component, components}
use Rattle.gq_resolve.specs.NodeTables.{NodeRow}
use Rattle.gq_trade.specs.declared.trade_node.NodeState.{NodeState}
use Rattle.gq_trade.specs.declared.trade_node.Stage.TheVariants.{Live}
use Rattle.gq_trade.specs.Balances.{no_node}
use Rattle.gq_prepared.specs.Account_nodes.{given_in, node_after}
use Rattle.gq_prepared.specs.Scenario_plan.{first_stage}

-- the node of a leaf with this quantum
abbrev pub first_leaf : Scenario → Amount → Component → NodeState
first_leaf s quantum c = record { quantum = quantum; after = node_after s c; stage = first_stage c.node.after }

abbrev pub first_leaf_at : Scenario → Amount → Option Component → NodeState
first_leaf_at s quantum None = no_node
first_leaf_at s quantum (Some c) = first_leaf s quantum c

-- the node with this quantum that is that leaf, or an init
abbrev pub first_by : Scenario → Amount → Option ℕ → NodeState
first_by s quantum None = record { quantum = quantum; after = None; stage = Live }
first_by s quantum (Some x) = first_leaf_at s quantum (slice_get (components s) x)

abbrev pub first_node : Scenario → NodeRow → NodeState
first_node s r = first_by s (given_in s.version r.quantum) r.leaf
