use Rattle.std.proofs.Common.{◌≡◌, drop}
use Rattle.gq_leaf.specs.internal.Signal_lists.{first_from}
use Rattle.gq_leaf.proofs.signals.first_in.Given as goal

-- none is submitted so far
abbrev pub invariant-loop-number : goal.invariant-loop-number
invariant-loop-number l = first_from l.number (drop l.number l.signals) ≡ first_from 0 l.signals
