-- The statements that a list has, and what is noted of them.
use Rattle.std.specs.Prelude.{◌≡◌, ℕ, ◌+◌, ◌-◌, ◌*◌, ◌^◌, min, max, List, [], ◌∷◌}
use Rattle.gq_model.specs.rules.Budgets.{cost}
use Rattle.gq_program.specs.Statement_trees.{tree_of}
use Rattle.gq_program.specs.Notes.{is_quiet, is_still}
use Rattle.gq_program.specs.declared.notes.StatementSummary.{StatementSummary}
use Rattle.gq_program.specs.declared.program_tree.Statement.{Statement}
use Rattle.gq_program.specs.declared.program_tree.Statement.TheVariants.{Plain, If, Loop}
use Rattle.gq_program.specs.declared.program_tree.Listed.{Listed}
use Rattle.gq_program.specs.declared.program_tree.Listed.TheVariants.{Nothing, Statements}

abbrev pub items_of : Listed → List Statement
items_of Nothing = []
items_of (Statements b) = b.value.statements.items

-- the steps of the blocks beside one for each statement
abbrev pub further : List Statement → ℕ
further [] = 0
further (Plain i ∷ rest) = further rest
further (If arm other ∷ rest) = max (cost arm) (cost other) + further rest
further (Loop n body ∷ rest) = n * (1 + cost body) + further rest

pub record AreNotes (notes : StatementSummary) (items : List Statement) : Type 0 where
  pub further : notes.further ≡ min (further items) (2 ^ 64 - 1)
  pub quiet : notes.is_quiet ≡ is_quiet (tree_of items)
  pub still : notes.is_still ≡ is_still (tree_of items)

abbrev pub IsNoted : Listed → Type 0
IsNoted Nothing = Unit {0}
IsNoted (Statements b) = AreNotes b.value.notes b.value.statements.items
