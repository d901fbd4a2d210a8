use Rattle.std.proofs.Common.{◌≡◌, ◌+◌, drop}
use Rattle.gq_model.specs.machine.Accounts.{shown}
use Rattle.gq_model.specs.machine.Step_budgets.{reaction_steps, steps_in}
use Rattle.gq_world.proofs.step_budgets.steps_in.Given as goal

-- the sum so far with what is left
abbrev pub invariant-loop-number : goal.invariant-loop-number
invariant-loop-number l = record {
  left : shown (l.sum + reaction_steps (drop l.number l.machine.world.leaves) (drop l.number l.budget.for_signals)) ≡ shown (steps_in l.machine.world l.budget);
  stored : shown l.sum ≡ l.sum;
}
