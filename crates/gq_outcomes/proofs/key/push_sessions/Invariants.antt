use Rattle.std.proofs.Common.{◌≡◌, ◌++◌, drop}
use Rattle.gq_outcomes.specs.internal.Key_parts.{numbered_key}
use Rattle.gq_outcomes.specs.internal.Keys.{each_key, list_key}
use Rattle.gq_outcomes.proofs.key.push_sessions.Given as goal

-- the bytes so far, with those of the sessions that are left, are all
abbrev pub invariant-loop-session : goal.invariant-loop-session
invariant-loop-session l =
    let key = numbered_key l.machine.world l.order in
    l.key.items ++ each_key key (drop l.session-index l.order) ≡ l.fn.key.items ++ list_key key l.order
