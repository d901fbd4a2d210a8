use Rattle.gq_traces.proofs.Lines_taken.{LinesFollowed}
use Rattle.gq_traces.proofs.follow.take_most.Given as goal

-- the first turns of the lines so far were taken
abbrev pub invariant-loop-item : goal.invariant-loop-item
invariant-loop-item l = LinesFollowed l.turns l.item-index l.left l.most l.fn.world l.world l.fn.followed l.followed
