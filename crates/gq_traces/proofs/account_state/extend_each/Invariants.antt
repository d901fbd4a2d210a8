use Rattle.std.proofs.Common.{◌≡◌, ◌≤◌, ◌+◌, ◌*◌, ◌++◌, length, take}
use Rattle.gq_traces.specs.Account_state.{signal_entries}
use Rattle.gq_traces.proofs.account_state.extend_each.Given as goal

-- those of the signals so far
abbrev pub invariant-loop-number : goal.invariant-loop-number
invariant-loop-number l = record {
  bytes : l.line.items ≡ l.fn.line.items ++ signal_entries (take l.number l.signals);
  long : length l.line.items ≤ length l.fn.line.items + l.number * 22;
}
