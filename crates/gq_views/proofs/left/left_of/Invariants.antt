use Rattle.std.proofs.Common.{◌≡◌, ◌-◌, drop}
use Rattle.gq_model.specs.machine.Amounts.{Ram, Caps}
use Rattle.gq_model.specs.rules.Resolve.{handed_out}
use Rattle.gq_scenario.specs.Component_trees.{nodes_of}
use Rattle.gq_views.proofs.left.left_of.Given as goal

-- what is left once those that are still to come have theirs is what is left once all have
abbrev pub invariant-loop-node : goal.invariant-loop-node
invariant-loop-node l = record {
  ram : l.left.ram - handed_out Ram (nodes_of (drop l.node-index l.node-items)) ≡ l.fn.quantum.ram - handed_out Ram (nodes_of l.node-items);
  caps : l.left.caps - handed_out Caps (nodes_of (drop l.node-index l.node-items)) ≡ l.fn.quantum.caps - handed_out Caps (nodes_of l.node-items);
}
