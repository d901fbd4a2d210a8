-- Each section of a program is found by its name.
use Rattle.std.proofs.Common.{◌≡◌, ℕ, zero, suc, ◌+◌, ◌<◌, true, List, [], ◌∷◌, length, Some, refl, subst, drop}
use Rattle.std.specs.Prelude.{get_or, slice_get}
use Rattle.std.proofs.lemmas.Bool.{and_parts}
use Rattle.gq_model.specs.declared.section.Section.{Section}
use Rattle.gq_model.specs.machine.Lists.{all_of}
use Rattle.gq_model.specs.machine.Program.{Program, Statements, section_in}
use Rattle.gq_model.specs.texts.Code.{IsProgram}
use Rattle.gq_model.specs.machine.Sections.{is_section}
use Rattle.gq_model.proofs.Section_laws.{section_found}
use Rattle.gq_rules.proofs.Program_section_facts.{each_section}
use Rattle.gq_verify.specs.Named_sections.{AreThere, IsThere}
use Rattle.gq_verify.proofs.List_remainders.{next_left}

there_by : (sections rest : List (Section × Statements)) →
    ((x : ℕ) (p : Section × Statements) → slice_get rest x ≡ Some p → section_in p.0 sections ≡ Some p.1) →
    all_of (λ p. is_section p.0) rest ≡ true → AreThere sections rest
there_by sections [] found fits = tt
there_by sections (p ∷ rest) found fits =
    let both = and_parts (is_section p.0) (all_of (λ p. is_section p.0) rest) fits in
    (record { fits = both.0; found = found zero p refl }, there_by sections rest (λ x q h. found (suc x) q h) both.1)

pub are_there : (p : Program) → IsProgram p → AreThere p.sections p.sections
are_there p is = there_by p.sections p.sections (section_found p is) (each_section p is)

-- the next section of those that are left
pub there_now : (sections items : List (Section × Statements)) (i : ℕ) (p : Section × Statements) → i < length items → p ≡ get_or items i p →
    AreThere sections (drop i items) → IsThere p sections × AreThere sections (drop (i + 1) items)
there_now sections items i p lt is h = subst (AreThere sections) (next_left items i p lt is) h
