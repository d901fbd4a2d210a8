use Rattle.std.proofs.Common.{◌≡◌, ◌++◌, map, drop}
use Rattle.gq_resolve.specs.NodeTables.{node_rows}
use Rattle.gq_prepared.specs.internal.Firsts.{first_node}
use Rattle.gq_prepared.proofs.plans.first_nodes.Given as goal

-- the nodes so far, with those that are left, are all
abbrev pub invariant-loop-place : goal.invariant-loop-place
invariant-loop-place l = l.nodes.items ++ map (first_node l.table) (drop l.place (node_rows l.table)) ≡ map (first_node l.table) (node_rows l.table)
