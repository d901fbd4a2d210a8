-- The list of statements that a vector of statements stands for.
use Rattle.std.specs.Prelude.{List, [], ◌∷◌}
use Rattle.gq_model.specs.machine.Program.{Statements, Done, Do}
use Rattle.gq_model.specs.machine.Program as program
use Rattle.gq_program.specs.declared.program_tree.Statement.{Statement}
use Rattle.gq_program.specs.declared.program_tree.Statement.TheVariants.{Plain, If, Loop}

abbrev pub tree_of : List Statement → Statements
tree_of [] = Done
tree_of (Plain i ∷ rest) = Do i (tree_of rest)
tree_of (If arm other ∷ rest) = program.If arm other (tree_of rest)
tree_of (Loop count body ∷ rest) = program.Loop count body (tree_of rest)
