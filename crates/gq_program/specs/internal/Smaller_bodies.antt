-- A statement's bodies are smaller than the list that it stands in.
use Rattle.std.specs.Prelude.{◌≤◌, List, [], ◌∷◌}
use Rattle.std.proofs.Common.{arith}
use denote.Param.Weighed.{most}
use Rattle.gq_model.specs.machine.Program.{size}
use Rattle.gq_program.specs.Statement_trees.{tree_of}
use Rattle.gq_program.specs.declared.program_tree.Statement.{Statement}
use Rattle.gq_program.specs.declared.program_tree.Statement.TheVariants.{Plain, If, Loop}
use Rattle.gq_program.specs.declared.program_tree.Listed.{Listed}
use Rattle.gq_program.specs.declared.program_tree.Listed.TheVariants.{Nothing, Statements}
use Rattle.gq_program.specs.declared.program_tree.Body.TheDeep.{deep-Statement, deep-Listed}
use Rattle.gq_program.specs.internal.Listed_statements.{items_of}

pub falls : (items : List Statement) → most deep-Statement items ≤ size (tree_of items)
falls [] = omega arith
falls (Plain i ∷ rest) = omega (arith, falls rest)
falls (If arm other ∷ rest) = omega (arith, falls rest)
falls (Loop n body ∷ rest) = omega (arith, falls rest)

pub falls_in : (l : Listed) → deep-Listed l ≤ size (tree_of (items_of l))
falls_in Nothing = omega arith
falls_in (Statements b) = omega (arith, falls b.value.statements.items)
