use Rattle.std.proofs.Common.{◌≡◌, false, length, map, replicate}
use Rattle.gq_leaf.specs.internal.Signal_lists.{signal_seen}
use Rattle.gq_leaf.proofs.signals.Signals.new.Given as goal

-- the signals so far
abbrev pub invariant-loop-number : goal.invariant-loop-number
invariant-loop-number l = record {
  count : length l.list.items ≡ l._number;
  made : map signal_seen l.list.items ≡ replicate l._number (record { submitted = false; taken = 0 });
}
