-- Which sections a program has, by its code.
use Rattle.std.proofs.Common.{◌≡◌, ℕ, ◌+◌, ◌<◌, ◌==◌, Bool, true, false, List, length, get_or, is_some, Option, Some, None, refl, ap, subst, ◌∙◌, arith}
use Rattle.std.specs.Prelude.{slice_set}
use Rattle.std.proofs.lemmas.Bool.Decides.{nat_tests}
use Rattle.std.proofs.lemmas.List.{get_or-set_same, get_or-set_other}
use Rattle.gq_model.specs.declared.section.Section.{Section}
use Rattle.gq_model.specs.declared.section.Section.TheVariants.{Main}
use Rattle.gq_model.specs.machine.Sections.{all_sections, is_section, section_number}
use Rattle.gq_model.proofs.Section_laws.{at_number, number_below}
use Rattle.gq_model.specs.machine.Program.{Statements, section_in}
use Rattle.gq_model.specs.declared.program.Instruction.{Instruction}
use Rattle.gq_bytecode.specs.declared.operation.Operation.{Operation}
use Rattle.gq_bytecode.specs.Programs.{AreFound, IsCodeOfProgram, ProgramCode, code_in}
use Rattle.gq_bytecode.proofs.Program_section_codes.{found_body}

found_same : (code : Option (List Operation)) (longs : List Instruction) (body : Option Statements) → AreFound code longs body → is_some code ≡ is_some body
found_same None longs None h = refl
found_same (Some ops) longs (Some body) h = refl
found_same None longs (Some body) h = absurd h
found_same (Some ops) longs None h = absurd h

-- there is code of a section where the program has it
pub same_sections : (code : ProgramCode) (sections : List (Section × Statements)) → IsCodeOfProgram code sections → (section : Section)
    → is_some (code_in section code.sections) ≡ is_some (section_in section sections)
same_sections code sections h section =
    found_same (code_in section code.sections) code.longs (section_in section sections)
    (found_body code section (code_in section code.sections) sections refl h)

-- what is reported of the first so many sections, each at its place
abbrev pub AreReported : (Section → Bool) → List Bool → ℕ → Type 0
AreReported reported bs n = (j : ℕ) → j < n → get_or bs j false ≡ reported (get_or all_sections j Main)

-- of one section more
module _ (reported : Section → Bool) (bs : List Bool) (n : ℕ) (b : Bool) (less : n < length bs) (before : AreReported reported bs n)
    (here : b ≡ reported (get_or all_sections n Main)) where
  found : (j : ℕ) → j < n + 1 → (e : Bool) → (j == n) ≡ e → get_or (slice_set bs n b) j false ≡ reported (get_or all_sections j Main)
  found j below true same =
      let is : n ≡ j = grind (arith, nat_tests, same) in
      subst (λ (m : ℕ). get_or (slice_set bs n b) m false ≡ reported (get_or all_sections m Main)) is (get_or-set_same bs n b false less ∙ here)
  found j below false other =
      let under : j < n = grind (arith, nat_tests, below, other) in get_or-set_other bs n j b false (λ e. omega (arith, under, e)) ∙ before j under

  pub one_more : AreReported reported (slice_set bs n b) (n + 1)
  one_more j below = found j below (j == n) refl

-- each section at its place
pub reported_at : (reported : Section → Bool) (bs : List Bool) (section : Section) → AreReported reported bs 16 → is_section section ≡ true
    → get_or bs (section_number section) false ≡ reported section
reported_at reported bs section h is =
    let below = number_below section is in h (section_number section) (omega (arith, below)) ∙ ap reported (at_number section is)
