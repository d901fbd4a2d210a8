use Rattle.std.proofs.Common.{◌≡◌, ◌+◌, [], drop}
use Rattle.std.specs.Prelude.{slice_index_or}
use Rattle.gq_model.specs.machine.Accounts.{shown}
use Rattle.gq_model.specs.machine.Step_budgets.{taken_steps}
use Rattle.gq_world.proofs.step_budgets.with_taken.Given as goal

-- the sum so far with what is left
abbrev pub invariant-loop-number : goal.invariant-loop-number
invariant-loop-number l = record {
  left : shown (l.sum + taken_steps (drop l.number l.signals) (drop l.number (slice_index_or l.budget.for_signals l.leaf [])))
      ≡ shown (l.fn.before + taken_steps l.signals (slice_index_or l.budget.for_signals l.leaf []));
  stored : shown l.sum ≡ l.sum;
}
