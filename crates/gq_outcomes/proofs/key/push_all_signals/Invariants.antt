use Rattle.std.proofs.Common.{◌≡◌, ◌++◌, drop}
use Rattle.gq_outcomes.specs.internal.Keys.{each_key, list_key, signal_key}
use Rattle.gq_outcomes.proofs.key.push_all_signals.Given as goal

-- the bytes so far, with those of the signals that are left, are all
abbrev pub invariant-loop-number : goal.invariant-loop-number
invariant-loop-number l =
    l.key.items ++ each_key signal_key (drop l.number l.signals) ≡ l.fn.key.items ++ list_key signal_key l.signals
