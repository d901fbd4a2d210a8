use Rattle.std.proofs.Common.{◌≡◌, ◌++◌, drop}
use Rattle.gq_outcomes.specs.internal.Keys.{each_key}
use Rattle.gq_outcomes.proofs.Key_lists.{named_below_one}
use Rattle.gq_outcomes.proofs.key.named_below.Given as goal

-- the sessions so far, with those below the ones that are left, are all
abbrev pub invariant-loop-session : goal.invariant-loop-session
invariant-loop-session l =
    l.order.items ++ each_key (named_below_one l.machine.world) (drop l.session-index l.sessions) ≡ each_key (named_below_one l.machine.world) l.sessions
