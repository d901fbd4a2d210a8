use Rattle.std.proofs.lemmas.Nat.{and_mask}
use Rattle.gq_heap.proofs.cell_class.cell_position.Goals as goal

pub returns-clause-index : goal.returns-clause-index
returns-clause-index c = rw c.requires.power (and_mask c.args.place c.args.bits)
