use Rattle.std.proofs.Common.{◌≡◌, ◌++◌, drop, map}
use Rattle.gq_budget.specs.internal.Signal_steps.{signal_tables}
use Rattle.gq_budget.proofs.signal_steps.signal_tables.Given as goal

-- the tables so far, with those of the leaves that are left, are those of all
abbrev pub invariant-loop-place : goal.invariant-loop-place
invariant-loop-place l =
    map (λ t. t.items) l.tables.items ++ signal_tables l.leaves l.uses l.place (drop l.place l.leaves) ≡ signal_tables l.leaves l.uses 0 l.leaves
