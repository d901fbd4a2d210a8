use Rattle.std.proofs.Common.{◌≡◌, length, map, take}
use Rattle.gq_world.specs.Account_lines.{all_accounts}
use Rattle.gq_traces.specs.Trace.{standing_of}
use Rattle.gq_traces.specs.internal.Noted.{standing_in}
use Rattle.gq_traces.proofs.noted.PrintedState.renew_accounts.Given as goal

-- the accounts so far are noted
abbrev pub invariant-loop-number : goal.invariant-loop-number
invariant-loop-number l = record {
  accounts : map standing_in (take l.number l.self.accounts.items) ≡ map standing_of (take l.number (all_accounts l.world));
  long : length l.self.accounts.items ≡ length (all_accounts l.world);
  sessions : l.self.sessions ≡ l.fn.self.sessions;
  count : l.self.count ≡ l.fn.self.count;
}
