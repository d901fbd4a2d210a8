use Rattle.std.proofs.Common.{◌≡◌, ◌++◌, drop}
use Rattle.gq_model.specs.machine.Accounts.{account_lines}
use Rattle.gq_world.specs.Account_lines.{all_accounts}
use Rattle.gq_outcomes.proofs.text.push_accounts.Given as goal

-- the lines so far, with those of the accounts that are left, are all
abbrev pub invariant-loop-number : goal.invariant-loop-number
invariant-loop-number l =
    l.text.items ++ account_lines l.world.scenario.version (drop l.number (all_accounts l.world))
    ≡ l.fn.text.items ++ account_lines l.world.scenario.version (all_accounts l.world)
