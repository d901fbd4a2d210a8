use Rattle.std.proofs.Common.{arith}
use Rattle.gq_tariff.specs.Prices.{classes}
use Rattle.gq_heap.specs.Heap.{peaks}
use Rattle.gq_heap.proofs.Heap_class_charges.{pages_are}
use Rattle.gq_heap.proofs.heap.Heap.charge_caps.Goals as goal

pub overflow_add-result : goal.overflow_add-result
overflow_add-result c =
    omega (arith, c.class_bytes.ensures.few, c.from.ensures, c.args.self.now.count_few)

pub returns : goal.returns
returns c = omega (arith, c.class_bytes.ensures.bytes, c.from.ensures, pages_are classes (peaks c.args.self.now))
