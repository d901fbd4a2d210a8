use Rattle.std.proofs.Common.{◌≡◌, ◌++◌, map, drop}
use Rattle.gq_resolve.specs.NodeTables.{NodeRow, node_rows}
use Rattle.gq_prepared.specs.Account_nodes.{or_zero, parents_of}
use Rattle.gq_prepared.proofs.plans.parents_of.Given as goal

-- the nodes above those so far, with those that are left, are all
abbrev pub invariant-loop-place : goal.invariant-loop-place
invariant-loop-place l = l.parents.items ++ map (λ (r : NodeRow). or_zero r.parent) (drop l.place (node_rows l.table)) ≡ parents_of l.table
