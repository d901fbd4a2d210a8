use Rattle.std.proofs.Common.{◌≡◌, ◌+◌, ◌*◌, ◌≤◌, drop}
use Rattle.gq_heap.proofs.Heap_change_parts.{price_from}
use Rattle.gq_heap.proofs.heap.Heap.class_bytes.Given as goal

abbrev pub invariant-loop-i : goal.invariant-loop-i
invariant-loop-i l = record {
  sum : l.total + price_from l.i (drop l.i l.self.bins) ≡ price_from 0 l.self.bins;
  few : l.total ≤ l.i * 35184372088832;
}
