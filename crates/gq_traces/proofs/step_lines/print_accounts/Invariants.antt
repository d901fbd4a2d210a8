use Rattle.std.proofs.Common.{◌≡◌, ◌≤◌, ℕ, length, map, take}
use Rattle.std.specs.Prelude.{slice_get}
use Rattle.gq_world.specs.Account_lines.{all_accounts}
use Rattle.gq_traces.specs.Trace.{standing_of}
use Rattle.gq_traces.specs.internal.Noted.{standing_in}
use Rattle.gq_traces.specs.internal.Printed_steps.{head_text}
use Rattle.gq_traces.proofs.Printed_changes.{Accounts_so_far}
use Rattle.gq_traces.proofs.step_lines.print_accounts.Given as goal

-- the accounts of the nodes so far were reported, and are noted anew
abbrev pub invariant-loop-number : goal.invariant-loop-number
invariant-loop-number g l = record {
  reported : Accounts_so_far g.W.Write.contents l.fn.world l.fn.notes.accounts.items (head_text l.fn.world.scenario l.fn.head) l.number l.fn.out l.out
      l.fn.progress l.progress;
  accounts : map standing_in (take l.number l.notes.accounts.items) ≡ map standing_of (take l.number (all_accounts l.fn.world));
  later : (k : ℕ) → l.number ≤ k → slice_get l.notes.accounts.items k ≡ slice_get l.fn.notes.accounts.items k;
  long : length l.notes.accounts.items ≡ length l.fn.notes.accounts.items;
  sessions : l.notes.sessions ≡ l.fn.notes.sessions;
  count : l.notes.count ≡ l.fn.notes.count;
}
