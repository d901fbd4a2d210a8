use Rattle.std.proofs.Common.{arith}
use Rattle.gq_heap.proofs.ClassLaws.{size_is, number_is}
use Rattle.gq_heap.proofs.cell_class.class_for_size.Goals as goal

pub returns-clause-size : goal.returns-clause-size
returns-clause-size c = rw c.from.ensures at c.class_of.ensures.size

pub returns-clause-index : goal.returns-clause-index
returns-clause-index c = number_is c.class_of.result c.args.size (omega (arith, c.requires)) (rw c.from.ensures at c.class_of.ensures.size)

pub returns-clause-fits : goal.returns-clause-fits
returns-clause-fits c = omega (arith, c.class_of.ensures.fits, c.from.ensures, size_is c.class_of.result)
