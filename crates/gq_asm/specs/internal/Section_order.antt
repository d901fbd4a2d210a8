-- Sections, one taken out at a time.
use Rattle.std.specs.Prelude.{◌≡◌, ℕ, suc, ◌<◌, if◌then◌else◌, Bool, true, ◌&&◌, not, List, [], ◌∷◌, ◌++◌, length, take, drop, slice_index_or, Some, None}
use Rattle.gq_model.specs.declared.section.Section.{Section}
use Rattle.gq_model.specs.machine.Program.{Statements, section_in}
use Rattle.gq_model.specs.machine.Sections.{same_section}

-- without the first one of this section
abbrev pub without : Section → List (Section × Statements) → List (Section × Statements)
without s [] = []
without s (t ∷ rest) = if same_section s t.0 then rest else t ∷ without s rest

-- the first one of this section is the i-th
pub record IsFirstAt (s : Section) (given : List (Section × Statements)) (i : ℕ) : Type 0 where
  pub inside : i < length given
  pub found : (d : Section × Statements) → section_in s given ≡ Some (slice_index_or given i d).1
  pub rest : take i given ++ drop (suc i) given ≡ without s given

-- there is none of this section
pub record IsAbsent (s : Section) (given : List (Section × Statements)) : Type 0 where
  pub missing : section_in s given ≡ None
  pub same : without s given ≡ given

abbrev pub differs_from : Section → List Section → Bool
differs_from s [] = true
differs_from s (t ∷ rest) = not (same_section t s) && differs_from s rest

-- no section stands twice
abbrev pub is_distinct : List Section → Bool
is_distinct [] = true
is_distinct (s ∷ rest) = differs_from s rest && is_distinct rest
