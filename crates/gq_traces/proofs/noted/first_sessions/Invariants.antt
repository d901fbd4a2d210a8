use Rattle.std.proofs.Common.{◌≡◌, ℕ, None, get_or, length}
use Rattle.gq_traces.proofs.noted.first_sessions.Given as goal

abbrev pub invariant-loop : goal.invariant-loop
invariant-loop l = record {
  long : length l.sessions.items ≡ l.counter;
  none : (k : ℕ) → get_or l.sessions.items k None ≡ None;
}
