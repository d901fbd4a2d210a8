-- Vectors of statements and the lists that they stand for.
use Rattle.std.proofs.Common.{◌≡◌, List, [], ◌∷◌, ◌++◌, refl, ap}
use Rattle.gq_model.specs.machine.Program.{Do, ◌then◌}
use Rattle.gq_model.specs.machine.Program as program
use Rattle.gq_program.specs.Statement_trees.{tree_of}
use Rattle.gq_program.specs.declared.program_tree.Statement.{Statement}
use Rattle.gq_program.specs.declared.program_tree.Statement.TheVariants.{Plain, If, Loop}

pub tree_of-append : (items more : List Statement) → tree_of (items ++ more) ≡ tree_of items then tree_of more
tree_of-append [] more = refl
tree_of-append (Plain i ∷ rest) more = ap (Do i) (tree_of-append rest more)
tree_of-append (If arm other ∷ rest) more = ap (program.If arm other) (tree_of-append rest more)
tree_of-append (Loop count body ∷ rest) more = ap (program.Loop count body) (tree_of-append rest more)
