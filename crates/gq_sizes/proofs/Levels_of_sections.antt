-- Of which levels a program's sections are.
use Rattle.std.proofs.Common.{◌≡◌, ℕ, zero, suc, ◌+◌, ◌≤◌, ◌&&◌, ◌||◌, Bool, true, false, List, [], ◌∷◌, length, Some, None, refl, ap, sym, ◌∙◌}
use Rattle.std.proofs.Common.{arith}
use Rattle.std.specs.Prelude.{nat_le, is_some, if◌then◌else◌}
use Rattle.std.proofs.lemmas.Bool.{and_parts, leb-true}
use Rattle.gq_model.specs.declared.section.Section.{Section}
use Rattle.gq_model.specs.declared.section.Section.TheVariants.{Main, Opening, Upgrading, Calling, Closing, Reacting}
use Rattle.gq_model.specs.machine.Lists.{any_of}
use Rattle.gq_model.specs.machine.Program.{Statements, section_in}
use Rattle.gq_model.specs.machine.Sections.{all_sections, same_section, level_of, is_section, section_number, is_own_section}
use Rattle.gq_model.specs.machine.Scenario.{Interface}
use Rattle.gq_model.specs.rules.Kinds.{Subject}
use Rattle.gq_model.specs.rules.Verdict.{is_wanted, same_truth, first_unwanted, program_fault}
use Rattle.gq_model.specs.texts.Code.{is_body, are_sections, IsProgram}
use Rattle.gq_model.proofs.Rules_laws.{accepted, same_section_is}
use Rattle.gq_model.proofs.Small_facts.{none_some, some_none}
use Rattle.gq_sizes.specs.Size.{is_up_to}
use Rattle.gq_model.proofs.Section_laws.{in_order}

-- a section that serves sessions of a level up to l
pub outside_main : (l : ℕ) (section : Section) → is_up_to l section ≡ true → (is_own_section section ≡ false) × (level_of section ≤ l)
outside_main l Main e = absurd cc
outside_main l Opening e = (refl, leb-true 0 l e)
outside_main l (Upgrading k) e = (refl, leb-true k l e)
outside_main l (Calling k) e = (refl, leb-true k l e)
outside_main l (Closing k) e = (refl, leb-true k l e)
outside_main l (Reacting i) e = absurd cc

-- WHICH SECTIONS THERE ARE

section_fits : (n : ℕ) (pairs : List (Section × Statements)) (section : Section) (list : Statements) → are_sections n pairs ≡ true
    → section_in section pairs ≡ Some list → is_section section ≡ true
section_fits n [] section list e there = absurd (none_some there)
section_fits n (p ∷ rest) section list e there =
    by (same_section section p.0) refl there (λ f. section_fits (1 + section_number p.0) rest section list a.1 f)
  where
    a : (is_section p.0 && nat_le n (section_number p.0) && is_body 4 p.1 ≡ true) × (are_sections (1 + section_number p.0) rest ≡ true)
    a = and_parts (is_section p.0 && nat_le n (section_number p.0) && is_body 4 p.1) (are_sections (1 + section_number p.0) rest) e

    is : is_section p.0 ≡ true
    is = (and_parts (is_section p.0) (nat_le n (section_number p.0)) (and_parts (is_section p.0 && nat_le n (section_number p.0)) (is_body 4 p.1) a.0).0).0

    by : (b : Bool) → same_section section p.0 ≡ b → (if◌then◌else◌ b (Some p.1) (section_in section rest)) ≡ Some list
        → (section_in section rest ≡ Some list → is_section section ≡ true) → is_section section ≡ true
    by true same f further = ap is_section (same_section_is section p.0 same) ∙ is
    by false other f further = further f

three_few : (l : ℕ) → l ≤ 3 → any_of (same_section (Calling l)) all_sections ≡ true
three_few zero h = refl
three_few (suc zero) h = refl
three_few (suc (suc zero)) h = refl
three_few (suc (suc (suc zero))) h = refl
three_few (suc (suc (suc (suc l)))) h = absurd (omega (arith, h))

three_close : (l : ℕ) → l ≤ 3 → any_of (same_section (Closing l)) all_sections ≡ true
three_close zero h = refl
three_close (suc zero) h = refl
three_close (suc (suc zero)) h = refl
three_close (suc (suc (suc zero))) h = refl
three_close (suc (suc (suc (suc l)))) h = absurd (omega (arith, h))

three_up : (l : ℕ) → 1 ≤ l → l ≤ 3 → any_of (same_section (Upgrading l)) all_sections ≡ true
three_up zero k h = absurd (omega (arith, k))
three_up (suc zero) k h = refl
three_up (suc (suc zero)) k h = refl
three_up (suc (suc (suc zero))) k h = refl
three_up (suc (suc (suc (suc l)))) k h = absurd (omega (arith, h))

three_on : (i : ℕ) → i ≤ 2 → any_of (same_section (Reacting i)) all_sections ≡ true
three_on zero h = refl
three_on (suc zero) h = refl
three_on (suc (suc zero)) h = refl
three_on (suc (suc (suc i))) h = absurd (omega (arith, h))

among : (section : Section) → is_section section ≡ true → any_of (same_section section) all_sections ≡ true
among Main e = refl
among Opening e = refl
among (Upgrading l) e = let a = and_parts (nat_le 1 l) (nat_le l 3) e in three_up l (leb-true 1 l a.0) (leb-true l 3 a.1)
among (Calling l) e = three_few l (leb-true l 3 e)
among (Closing l) e = three_close l (leb-true l 3 e)
among (Reacting i) e = three_on i (leb-true i 2 e)

-- one that is there is wanted
wanted_by : (v : Subject) (section : Section) (list : Statements) (sections : List Section) → first_unwanted v sections ≡ None
    → any_of (same_section section) sections ≡ true → section_in section v.program.sections ≡ Some list → is_wanted v.provided v.signals section ≡ true
wanted_by v section list [] e h there = absurd cc
wanted_by v section list (s ∷ rest) e h there =
    by (same_truth (is_wanted v.provided v.signals s) (is_some (section_in s v.program.sections))) refl e (same_section section s) refl h
    (λ f g. wanted_by v section list rest f g there)
  where
    both_true : (a b : Bool) → same_truth a b ≡ true → b ≡ true → a ≡ true
    both_true true b f g = refl
    both_true false true f g = absurd cc
    both_true false false f g = absurd cc

    by : (t : Bool) → same_truth (is_wanted v.provided v.signals s) (is_some (section_in s v.program.sections)) ≡ t
        → (if◌then◌else◌ t (first_unwanted v rest) (Some s)) ≡ None → (b : Bool) → same_section section s ≡ b
        → (b || any_of (same_section section) rest) ≡ true
        → (first_unwanted v rest ≡ None → any_of (same_section section) rest ≡ true → is_wanted v.provided v.signals section ≡ true)
        → is_wanted v.provided v.signals section ≡ true
    by false f g b same k further = absurd (some_none g)
    by true f g false same k further = further g k
    by true f g true same k further =
        let one = same_section_is section s same in
        ap (is_wanted v.provided v.signals) one
        ∙ both_true (is_wanted v.provided v.signals s) (is_some (section_in s v.program.sections)) f
        (ap (λ n. is_some (section_in n v.program.sections)) (sym one) ∙ ap is_some there)

level_by : (i : Interface) (signals : ℕ) (section : Section) → is_wanted (Some i) signals section ≡ true → is_up_to (level_of section) section ≡ true
    → level_of section ≤ length i.upgrades
level_by i signals Main e up = omega arith
level_by i signals Opening e up = omega arith
level_by i signals (Upgrading l) e up = leb-true l (length i.upgrades) e
level_by i signals (Calling l) e up = leb-true l (length i.upgrades) e
level_by i signals (Closing l) e up = leb-true l (length i.upgrades) e
level_by i signals (Reacting j) e up = absurd cc

-- of a program that breaks no rule each section of the service is of a level that its interface has
pub level_known : (v : Subject) (i : Interface) (section : Section) (list : Statements) → IsProgram v.program → program_fault v ≡ None → v.provided ≡ Some i
    → section_in section v.program.sections ≡ Some list → is_up_to (level_of section) section ≡ true → level_of section ≤ length i.upgrades
level_known v i section list formed fine provided there up =
    let is = section_fits 0 v.program.sections section list (in_order v.program formed) there in
    let wanted = wanted_by v section list all_sections (accepted v fine).0 (among section is) there in
    level_by i v.signals section (ap (λ o. is_wanted o v.signals section) (sym provided) ∙ wanted) up
