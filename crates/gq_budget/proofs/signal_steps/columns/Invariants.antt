use Rattle.std.proofs.Common.{◌≡◌, ◌++◌, drop, map}
use Rattle.gq_budget.specs.internal.Signal_steps.{column}
use Rattle.gq_budget.proofs.signal_steps.columns.Given as goal

-- the columns so far, with those of the tables that are left, are those of all
abbrev pub invariant-loop-table : goal.invariant-loop-table
invariant-loop-table l =
    l.columns.items ++ map (column l.place) (map (λ t. t.items) (drop l.table-index l.tables)) ≡ map (column l.place) (map (λ t. t.items) l.tables)
