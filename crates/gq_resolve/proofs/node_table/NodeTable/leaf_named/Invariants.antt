use Rattle.std.proofs.Common.{◌≡◌, drop}
use Rattle.gq_model.specs.machine.Routes.{numbered}
use Rattle.gq_model.specs.machine.Scenario.{components}
use Rattle.gq_resolve.proofs.node_table.NodeTable.leaf_named.Given as goal

-- the leaf is among those that are left, or nowhere
abbrev pub invariant-loop-number : goal.invariant-loop-number
invariant-loop-number l = numbered l.number l.name (drop l.number (components l.self)) ≡ numbered 0 l.name (components l.self)
