use Rattle.std.proofs.Common.{◌≡◌, take}
use Rattle.std.specs.Io.KnownBytes.{Appends}
use Rattle.gq_model.specs.machine.Accounts.{account_lines}
use Rattle.gq_model.specs.rules.Accept.{step_budgets}
use Rattle.gq_world.specs.Account_lines.{accounts_by, stored_budgets}
use Rattle.gq_world.proofs.account_lines.write_accounts.Given as goal

-- the lines of the nodes so far were written
abbrev pub invariant-loop-number : goal.invariant-loop-number
invariant-loop-number g l = record {
  written : Appends (g.W.Write.contents l.fn.out.writer) (g.W.Write.contents l.out.writer)
      (account_lines l.fn.machine.scenario.version (take l.number
      (accounts_by l.fn.machine.scenario l.fn.machine.world (stored_budgets l.fn.machine.world (step_budgets l.fn.budgets)))));
  counted : l.out.failures ≡ l.fn.out.failures;
}
