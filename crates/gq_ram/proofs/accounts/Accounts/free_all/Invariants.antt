use Rattle.gq_ram.proofs.Closed_account_balances.{IsCleared}
use Rattle.gq_ram.proofs.accounts.Accounts.free_all.Given as goal

abbrev pub invariant-loop-k : goal.invariant-loop-k
invariant-loop-k l = record {
  cleared : IsCleared l.fn.self l.self l.account l.k;
}
