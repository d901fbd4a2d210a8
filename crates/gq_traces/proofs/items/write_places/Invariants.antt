use Rattle.gq_traces.proofs.Printed_slot_contents.{Places_so_far}
use Rattle.gq_traces.proofs.items.write_places.Given as goal

-- the classes so far were reported
abbrev pub invariant-loop-number : goal.invariant-loop-number
invariant-loop-number g l = Places_so_far g.W.Write.contents l.machine l.leaf l.fn.out l.out l.fn.going l.going l.number
