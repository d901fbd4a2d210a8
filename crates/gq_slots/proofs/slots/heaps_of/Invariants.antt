use Rattle.std.proofs.Common.{◌≤◌}
use Rattle.gq_slots.specs.Slots.{AreNew}
use Rattle.gq_slots.proofs.slots.heaps_of.Given as goal

abbrev pub invariant-loop : goal.invariant-loop
invariant-loop l = (l.counter ≤ l.fn.count) × AreNew l.counter l.heaps.items
