use Rattle.gq_traces.proofs.Printed_nodes.{Children_so_far}
use Rattle.gq_traces.proofs.account_state.write_handed.Given as goal

-- the children so far were reported
abbrev pub invariant-loop-number : goal.invariant-loop-number
invariant-loop-number g l = Children_so_far g.W.Write.contents l.machine l.node l.fn.out l.out l.fn.going l.going l.number
