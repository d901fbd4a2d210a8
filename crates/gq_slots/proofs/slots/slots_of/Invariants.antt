use Rattle.std.proofs.Common.{◌≡◌, ◌≤◌, replicate}
use Rattle.gq_contents.specs.declared.content.Content.TheVariants.{Empty}
use Rattle.gq_slots.proofs.slots.slots_of.Given as goal

abbrev pub invariant-loop : goal.invariant-loop
invariant-loop l = (l.counter ≤ l.fn.count) × (l.own.items ≡ replicate l.counter (replicate 64 Empty))
