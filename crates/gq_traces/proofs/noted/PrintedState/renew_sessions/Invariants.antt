use Rattle.std.proofs.Common.{◌≡◌, ◌<◌, ◌≤◌, ℕ, None, get_or, length}
use Rattle.gq_traces.specs.internal.Noted.{IsReported}
use Rattle.gq_traces.proofs.noted.PrintedState.renew_sessions.Given as goal

-- the sessions so far are noted
abbrev pub invariant-loop-session : goal.invariant-loop-session
invariant-loop-session l = record {
  reported : (k : ℕ) → k < l.session → IsReported l.world.scenario l.world.world k (get_or l.self.sessions.items k None);
  others : (k : ℕ) → l.session ≤ k → get_or l.self.sessions.items k None ≡ get_or l.fn.self.sessions.items k None;
  room : length l.self.sessions.items ≡ 16449;
  accounts : l.self.accounts ≡ l.fn.self.accounts;
  count : l.self.count ≡ l.fn.self.count;
}
