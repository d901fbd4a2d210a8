-- The numbers of sections. A program's sections stand in their order, so each is the one that is found.
use Rattle.std.proofs.Common.{◌≡◌, ℕ, zero, suc, ◌+◌, ◌≤◌, ◌&&◌, ◌==◌, Bool, true, false, List, [], ◌∷◌, length, get_or, Some, refl, ap, sym, ◌∙◌, subst}
use Rattle.std.proofs.Common.{arith, inl, inr}
use Rattle.std.specs.Prelude.{nat_le, slice_get, sum_by, if◌then◌else◌}
use Rattle.std.proofs.lemmas.Bool.{and_parts, cases_Bool, leb-true}
use Rattle.gq_model.specs.declared.section.Section.{Section}
use Rattle.gq_model.specs.declared.section.Section.TheVariants.{Main, Opening, Upgrading, Calling, Closing, Reacting}
use Rattle.gq_model.specs.machine.Lists.{all_of, between}
use Rattle.gq_model.specs.machine.Program.{Program, Statements, section_in, size}
use Rattle.gq_model.specs.machine.Sections.{same_section, all_sections, is_section, section_number}
use Rattle.gq_model.specs.texts.Code.{is_body, are_sections, greatest_statements, IsProgram}
use Rattle.gq_model.specs.texts.Operands.{greatest_number}
use Rattle.gq_model.proofs.Rules_laws.{same_section_is}
use Rattle.gq_model.proofs.Small_facts.{equal_self, none_some, some_same}

pub same_self : (section : Section) → same_section section section ≡ true
same_self Main = refl
same_self Opening = refl
same_self (Upgrading l) = equal_self l
same_self (Calling l) = equal_self l
same_self (Closing l) = equal_self l
same_self (Reacting i) = equal_self i

-- NUMBERS

-- a section is known by its number
pub at_number : (s : Section) → is_section s ≡ true → get_or all_sections (section_number s) Main ≡ s
at_number Main h = refl
at_number Opening h = refl
at_number (Upgrading zero) h = cc
at_number (Upgrading (suc zero)) h = refl
at_number (Upgrading (suc (suc zero))) h = refl
at_number (Upgrading (suc (suc (suc zero)))) h = refl
at_number (Upgrading (suc (suc (suc (suc l))))) h =
    let n = suc (suc (suc (suc l))) in let k = leb-true n 3 ((and_parts (nat_le 1 n) (nat_le n 3) h).1) in absurd (omega (arith, k))
at_number (Calling zero) h = refl
at_number (Calling (suc zero)) h = refl
at_number (Calling (suc (suc zero))) h = refl
at_number (Calling (suc (suc (suc zero)))) h = refl
at_number (Calling (suc (suc (suc (suc l))))) h = let k = leb-true (suc (suc (suc (suc l)))) 3 h in absurd (omega (arith, k))
at_number (Closing zero) h = refl
at_number (Closing (suc zero)) h = refl
at_number (Closing (suc (suc zero))) h = refl
at_number (Closing (suc (suc (suc zero)))) h = refl
at_number (Closing (suc (suc (suc (suc l))))) h = let k = leb-true (suc (suc (suc (suc l)))) 3 h in absurd (omega (arith, k))
at_number (Reacting zero) h = refl
at_number (Reacting (suc zero)) h = refl
at_number (Reacting (suc (suc zero))) h = refl
at_number (Reacting (suc (suc (suc i)))) h = let k = leb-true (suc (suc (suc i))) 2 h in absurd (omega (arith, k))

pub same_number : (s t : Section) → is_section s ≡ true → is_section t ≡ true → section_number s ≡ section_number t → s ≡ t
same_number s t h k e = sym (at_number s h) ∙ (ap (λ n. get_or all_sections n Main) e ∙ at_number t k)

-- there are 16
pub number_below : (s : Section) → is_section s ≡ true → section_number s ≤ 15
number_below Main h = omega arith
number_below Opening h = omega arith
number_below (Upgrading l) h = let k = leb-true l 3 ((and_parts (nat_le 1 l) (nat_le l 3) h).1) in omega (arith, k)
number_below (Calling l) h = let k = leb-true l 3 h in omega (arith, k)
number_below (Closing l) h = let k = leb-true l 3 h in omega (arith, k)
number_below (Reacting i) h = let k = leb-true i 2 h in omega (arith, k)

-- sections of other numbers are others
pub differ : (s t : Section) → (section_number s ≡ section_number t → ⊥) → same_section s t ≡ false
differ s t other = elim (cases_Bool (same_section s t)) [
  | inl e ↦ absurd (other (ap section_number (same_section_is s t e)))
  | inr e ↦ e
]

-- ORDER

pub in_order : (p : Program) → IsProgram p → are_sections 0 p.sections ≡ true
in_order p e =
    let a = and_parts (length p.locals == 8 && all_of (between 0 greatest_number) p.locals && are_sections 0 p.sections)
    (nat_le (sum_by (λ s. size s.1) p.sections) greatest_statements) e in
    let b = and_parts (length p.locals == 8 && all_of (between 0 greatest_number) p.locals) (are_sections 0 p.sections) a.0 in b.1

-- the first of sections in their order
pub record First (n : ℕ) (p : Section × Statements) (others : List (Section × Statements)) : Type 0 where
  pub section : is_section p.0 ≡ true
  pub at : n ≤ section_number p.0
  pub body : is_body 4 p.1 ≡ true
  pub rest : are_sections (1 + section_number p.0) others ≡ true

pub first_of : (n : ℕ) (p : Section × Statements) (rest : List (Section × Statements)) → are_sections n (p ∷ rest) ≡ true → First n p rest
first_of n p rest e =
    let k = section_number p.0 in
    let a = and_parts (is_section p.0 && nat_le n k && is_body 4 p.1) (are_sections (1 + k) rest) e in
    let b = and_parts (is_section p.0 && nat_le n k) (is_body 4 p.1) a.0 in
    let c = and_parts (is_section p.0) (nat_le n k) b.0 in
    record { section = c.0; at = leb-true n k c.1; body = b.1; rest = a.1 }

-- those from the n-th place on have numbers from n on
number_from : (n : ℕ) (pairs : List (Section × Statements)) → are_sections n pairs ≡ true → (x : ℕ) (p : Section × Statements) → slice_get pairs x ≡ Some p
    → n ≤ section_number p.0
number_from n [] e x p there = absurd (none_some there)
number_from n (q ∷ rest) e zero p there =
    let o = first_of n q rest e in subst (λ (k : Section × Statements). n ≤ section_number k.0) (some_same there) o.at
number_from n (q ∷ rest) e (suc x) p there =
    let o = first_of n q rest e in
    let r = number_from (1 + section_number q.0) rest o.rest x p there in
    let f = o.at in omega (arith, r, f)

-- each is found by its name
found_by : (n : ℕ) (pairs : List (Section × Statements)) → are_sections n pairs ≡ true → (x : ℕ) (p : Section × Statements) → slice_get pairs x ≡ Some p
    → section_in p.0 pairs ≡ Some p.1
found_by n [] e x p there = absurd (none_some there)
found_by n (q ∷ rest) e zero p there = subst (λ (k : Section × Statements). section_in k.0 (q ∷ rest) ≡ Some k.1) (some_same there) here
  where
    here : section_in q.0 (q ∷ rest) ≡ Some q.1
    here = λ i. if◌then◌else◌ (same_self q.0 i) (Some q.1) (section_in q.0 rest)
found_by n (q ∷ rest) e (suc x) p there = by (same_section p.0 q.0) refl (found_by (1 + section_number q.0) rest (first_of n q rest e).rest x p there)
  where
    by : (b : Bool) → same_section p.0 q.0 ≡ b → section_in p.0 rest ≡ Some p.1 → (if◌then◌else◌ b (Some q.1) (section_in p.0 rest)) ≡ Some p.1
    by false f further = further
    by true f further =
        let o = first_of n q rest e in
        let more = number_from (1 + section_number q.0) rest o.rest x p there in
        let same : section_number p.0 ≡ section_number q.0 = ap section_number (same_section_is p.0 q.0 f) in
        absurd (omega (arith, more, same))

pub section_found : (p : Program) → IsProgram p → (x : ℕ) (q : Section × Statements) → slice_get p.sections x ≡ Some q → section_in q.0 p.sections ≡ Some q.1
section_found p e x q there = found_by 0 p.sections (in_order p e) x q there
