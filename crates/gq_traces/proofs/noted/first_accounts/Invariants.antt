use Rattle.std.proofs.Common.{◌≡◌, length}
use Rattle.gq_traces.proofs.noted.first_accounts.Given as goal

abbrev pub invariant-loop : goal.invariant-loop
invariant-loop l = length l.accounts.items ≡ l.counter
