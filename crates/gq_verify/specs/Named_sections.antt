-- The sections of a program, each found by its name.
use Rattle.std.specs.Prelude.{◌≡◌, IsTrue, List, [], ◌∷◌, Some}
use Rattle.gq_model.specs.declared.section.Section.{Section}
use Rattle.gq_model.specs.machine.Program.{Statements, section_in}
use Rattle.gq_model.specs.machine.Sections.{is_section}

-- a section is one that there may be, and is found by its name
pub record IsThere (p : Section × Statements) (sections : List (Section × Statements)) : Type 0 where
  pub fits : IsTrue (is_section p.0)
  pub found : section_in p.0 sections ≡ Some p.1

-- each of these is
abbrev pub AreThere : List (Section × Statements) → List (Section × Statements) → Type 0
AreThere sections [] = Unit {0}
AreThere sections (p ∷ rest) = IsThere p sections × AreThere sections rest
