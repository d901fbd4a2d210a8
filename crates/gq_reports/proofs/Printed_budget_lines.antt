-- The lines of budgets that are written.
use Rattle.std.proofs.Common.{◌≡◌, ℕ, List, Result, Ok, Err, ap, sym}
use Rattle.std.specs.Prelude.{IsOkAnd}
use Rattle.gq_model.specs.machine.Scenario.{Scenario}
use Rattle.gq_model.specs.rules.Accept.{budget_lines}
use Rattle.gq_load.specs.Load.{LoadRefusal}
use Rattle.gq_reports.specs.Whole.{with_scenario}

-- the budgets of a scenario that was loaded
pub written_lines : (r : Result Scenario LoadRefusal) (lines : List ℕ) → IsOkAnd r (λ s. lines ≡ budget_lines s) →
    with_scenario r (λ s. Ok (budget_lines s)) ≡ Ok lines
written_lines (Ok s) lines h = ap Ok (sym h)
written_lines (Err fault) lines h = absurd h
