use Rattle.gq_traces.proofs.Printed_banks.{Slots_so_far}
use Rattle.gq_traces.proofs.items.write_slots.Given as goal

-- the slots so far were reported
abbrev pub invariant-loop-slot : goal.invariant-loop-slot
invariant-loop-slot g l = Slots_so_far g.W.Write.contents l.machine l.bank l.fn.out l.out l.fn.going l.going l.slot
