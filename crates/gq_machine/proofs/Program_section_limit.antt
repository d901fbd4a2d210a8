-- The sections of a program.
use Rattle.std.proofs.Common.{◌≡◌, ◌+◌, ℕ, zero, suc, true, false, ◌&&◌, cond, List, [], ◌∷◌, ◌==◌, is_some, Some, refl, ap, length, sum_by, ◌∙◌, arith}
use Rattle.std.specs.Prelude.{nat_le}
use Rattle.std.proofs.lemmas.Bool.{and_parts, leb-true}
use Rattle.gq_model.specs.declared.section.Section.{Section}
use Rattle.gq_model.specs.declared.section.Section.TheVariants.{Main, Opening, Upgrading, Calling, Closing, Reacting}
use Rattle.gq_model.specs.machine.Lists.{all_of, between}
use Rattle.gq_model.specs.machine.Program.{Program, Statements, section_in, size}
use Rattle.gq_model.specs.machine.Sections.{same_section, is_section, section_number}
use Rattle.gq_model.specs.texts.Code.{IsProgram, are_sections, greatest_statements, is_body}
use Rattle.gq_model.specs.texts.Operands.{greatest_number}

-- a section is none for a fourth upgrade
not_fourth : (section : Section) → is_section section ≡ true → same_section (Upgrading 4) section ≡ false
not_fourth Main e = refl
not_fourth Opening e = refl
not_fourth (Upgrading zero) e = refl
not_fourth (Upgrading (suc zero)) e = refl
not_fourth (Upgrading (suc (suc zero))) e = refl
not_fourth (Upgrading (suc (suc (suc zero)))) e = refl
not_fourth (Upgrading (suc (suc (suc (suc n))))) e =
    let k = suc (suc (suc (suc n))) in
    let small = leb-true k 3 (and_parts (nat_le 1 k) (nat_le k 3) e).1 in absurd (omega (arith, small))
not_fourth (Calling l) e = refl
not_fourth (Closing l) e = refl
not_fourth (Reacting i) e = refl

none_fourth : (n : ℕ) (sections : List (Section × Statements)) → are_sections n sections ≡ true → is_some (section_in (Upgrading 4) sections) ≡ false
none_fourth n [] e = refl
none_fourth n (p ∷ rest) e =
    let a = and_parts (is_section p.0 && nat_le n (section_number p.0) && is_body 4 p.1) (are_sections (1 + section_number p.0) rest) e in
    let b = and_parts (is_section p.0 && nat_le n (section_number p.0)) (is_body 4 p.1) a.0 in
    let c = and_parts (is_section p.0) (nat_le n (section_number p.0)) b.0 in
    ap (λ t. is_some (cond t (Some p.1) (section_in (Upgrading 4) rest))) (not_fourth p.0 c.0) ∙ none_fourth (1 + section_number p.0) rest a.1

-- no program has a section for a fourth upgrade
pub no_fourth : (p : Program) → IsProgram p → is_some (section_in (Upgrading 4) p.sections) ≡ false
no_fourth p e =
    let a = and_parts (length p.locals == 8 && all_of (between 0 greatest_number) p.locals && are_sections 0 p.sections)
    (nat_le (sum_by (λ s. size s.1) p.sections) greatest_statements) e in
    let b = and_parts (length p.locals == 8 && all_of (between 0 greatest_number) p.locals) (are_sections 0 p.sections) a.0 in
    none_fourth 0 p.sections b.1
