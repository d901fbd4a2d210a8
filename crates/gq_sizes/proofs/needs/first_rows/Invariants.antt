use Rattle.std.proofs.Common.{◌≡◌, ◌++◌, drop}
use Rattle.gq_model.specs.machine.Scenario.{System}
use Rattle.gq_sizes.specs.Saturated_tables.{sum_rows}
use Rattle.gq_sizes.proofs.needs.first_rows.Given as goal

-- the rows so far, with those of the interfaces that are left, are all
abbrev pub invariant-loop-entry : goal.invariant-loop-entry
invariant-loop-entry l = (all : System) → l.rows.items ++ sum_rows all 0 (drop l._entry-index l._entry-items) ≡ sum_rows all 0 l._entry-items
