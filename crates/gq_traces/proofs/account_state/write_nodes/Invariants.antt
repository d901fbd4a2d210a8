use Rattle.std.proofs.Common.{true}
use Rattle.gq_traces.proofs.Printed_nodes.{Nodes_so_far}
use Rattle.gq_traces.proofs.account_state.write_nodes.Given as goal

-- the nodes so far were reported
abbrev pub invariant-loop-number : goal.invariant-loop-number
invariant-loop-number g l = Nodes_so_far g.W.Write.contents l.world l.followed l.fn.out l.out true l.going l.number
