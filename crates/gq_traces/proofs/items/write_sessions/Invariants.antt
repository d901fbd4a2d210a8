use Rattle.gq_traces.proofs.Printed_sessions.{Sessions_so_far}
use Rattle.gq_traces.proofs.items.write_sessions.Given as goal

-- the sessions so far were reported
abbrev pub invariant-loop-session : goal.invariant-loop-session
invariant-loop-session g l = Sessions_so_far g.W.Write.contents l.machine l.leaf l.fn.out l.out l.fn.going l.going l.session
