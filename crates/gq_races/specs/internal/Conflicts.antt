-- Whether a leaf has a race or an order, as the code finds it.
use Rattle.std.specs.Prelude.{ℕ, Bool, false, ◌&&◌, ◌||◌, not, List, [], ◌∷◌, if◌then◌else◌, map}
use Rattle.gq_model.specs.declared.program.Instruction.{Instruction}
use Rattle.gq_model.specs.declared.section.Section.{Section}
use Rattle.gq_model.specs.machine.Program.{Statements, Done, Do, If, Loop}
use Rattle.gq_model.specs.machine.Scenario.{Component}
use Rattle.gq_model.specs.machine.Sections.{is_start_section}
use Rattle.gq_races.specs.Races.{Stated, changes_own, writes_line}
use Rattle.gq_races.specs.Race_text.{opened_text, shared_text}

-- a statement that is a race or an order, where the section may run for several threads
abbrev pub conflicts : Instruction → Bool
conflicts i = changes_own i || writes_line i

-- a statement is, or one in it
abbrev pub conflicts_in : Statements → Bool
conflicts_in Done = false
conflicts_in (Do i rest) = conflicts i || conflicts_in rest
conflicts_in (If arm other rest) = conflicts_in arm || conflicts_in other || conflicts_in rest
conflicts_in (Loop n body rest) = conflicts_in body || conflicts_in rest

-- one of a section other than `main` is
abbrev pub conflicts_later : List (Section × Statements) → Bool
conflicts_later [] = false
conflicts_later (p ∷ rest) = not (is_start_section p.0) && conflicts_in p.1 || conflicts_later rest

-- what stands before a leaf's lines, if it is shared and has such a statement
abbrev pub sharing : Bool → Component → List Stated → List (List ℕ)
sharing shared c openers =
    if shared && conflicts_later c.node.program.sections then shared_text c ∷ map opened_text openers else []
