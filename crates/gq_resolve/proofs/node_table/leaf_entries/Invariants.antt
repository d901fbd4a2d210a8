use Rattle.std.proofs.Common.{◌≡◌, ◌++◌, drop}
use Rattle.gq_model.specs.machine.Scenario.{components}
use Rattle.gq_resolve.specs.NodeTables.{leaf_rows, leaf_rows_of}
use Rattle.gq_resolve.proofs.node_table.leaf_entries.Given as goal

-- the leaves so far, with those that are left, are all
abbrev pub invariant-loop-number : goal.invariant-loop-number
invariant-loop-number l = l.entries.items ++ leaf_rows_of l.scenario (drop l.number l.node-items) (drop l.number (components l.scenario)) ≡ leaf_rows l.scenario
