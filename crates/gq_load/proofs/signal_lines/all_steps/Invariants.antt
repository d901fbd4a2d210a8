use Rattle.std.proofs.Common.{◌≡◌, ◌≤◌, ◌+◌, ◌*◌, drop}
use Rattle.std.specs.Prelude.{sum}
use Rattle.gq_model.specs.rules.Accept.{steps_of_signal}
use Rattle.gq_load.proofs.signal_lines.all_steps.Given as goal

-- the sum so far, with the steps of the leaves that are left, is that of all
abbrev pub invariant-loop-budget : goal.invariant-loop-budget
invariant-loop-budget l =
    record {
      summed : l.sum + sum (steps_of_signal l.leaf l.signal (drop l.budget-index l.budgets)) ≡ sum (steps_of_signal l.leaf l.signal l.budgets);
      small : l.sum ≤ l.budget-index * 1000000000000;
    }
