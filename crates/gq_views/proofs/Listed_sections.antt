-- The lines of sections are read back as the sections.
use Rattle.std.proofs.Common.{◌≡◌, ◌∙◌, ℕ, suc, ◌+◌, ◌<◌, ◌≤◌, Bool, true, List, [], ◌∷◌, ◌++◌, length, Option, Some, None}
use Rattle.std.proofs.Common.{refl, ap, ap₂, sym, subst, arith, inl, inr}
use Rattle.std.specs.Prelude.{◌&&◌, nat_le, ◌==◌, if◌then◌else◌}
use Rattle.std.proofs.lemmas.Bool.{and_from, cases_Bool, le-leb}
use Rattle.std.proofs.lemmas.Bool.Decides.{nat_tests}
use Rattle.gq_model.specs.declared.section.Section.{Section}
use Rattle.gq_model.specs.machine.Lists.{or_first}
use Rattle.gq_model.specs.machine.Program.{Statements, ◌then◌, section_in}
use Rattle.gq_model.specs.machine.Sections.{all_sections, same_section, is_section, section_number}
use Rattle.gq_model.specs.texts.Code.{are_sections, is_body}
use Rattle.gq_model.specs.texts.Text.{in_order, section_entry}
use Rattle.gq_model.proofs.Decoded_programs.{InOrder, all_in_order}
use Rattle.gq_model.proofs.Rules_laws.{same_section_is}
use Rattle.gq_model.proofs.Section_laws.{differ, first_of, number_below, same_number, same_self}

abbrev pub Sections : Type 0
Sections = List (Section × Statements)

-- ORDER

later : (n : ℕ) (p : Section × Statements) (rest : Sections) → are_sections n (p ∷ rest) ≡ true → n < section_number p.0 → are_sections (suc n) (p ∷ rest)
    ≡ true
later n p rest h less =
    let f = first_of n p rest h in
    let k = section_number p.0 in
    and_from (is_section p.0 && nat_le (suc n) k && is_body 4 p.1) (are_sections (1 + k) rest)
    (and_from (is_section p.0 && nat_le (suc n) k) (is_body 4 p.1) (and_from (is_section p.0) (nat_le (suc n) k) f.section (le-leb (suc n) k less)) f.body)
    f.rest

-- LOOKING FOR A SECTION

pub none_above : (n : ℕ) (ps : Sections) (s : Section) → are_sections n ps ≡ true → section_number s < n → section_in s ps ≡ None
none_above n [] s h less = refl
none_above n (p ∷ rest) s h less =
    let f = first_of n p rest h in
    let at = f.at in
    ap (λ (b : Bool). if b then Some p.1 else section_in s rest) (differ s p.0 (λ e. omega (arith, e, less, at)))
    ∙ none_above (1 + section_number p.0) rest s f.rest (omega (arith, less, at))

-- sections before others, the last of them first
abbrev pub onto : Sections → Sections → Sections
onto [] S = S
onto (p ∷ rest) S = onto rest (p ∷ S)

looked_up : (n : ℕ) (ps S : Sections) (s : Section) → are_sections n ps ≡ true → section_in s (onto ps S) ≡ or_first (section_in s ps) (section_in s S)
looked_up n [] S s h = refl
looked_up n (p ∷ rest) S s h =
    let f = first_of n p rest h in
    let ih = looked_up (1 + section_number p.0) rest (p ∷ S) s f.rest in
    elim (cases_Bool (same_section s p.0)) [
      | inl e ↦
          let is : s ≡ p.0 = same_section_is s p.0 e in
          let none : section_in s rest ≡ None = none_above (1 + section_number p.0) rest s f.rest (omega (arith, ap section_number is)) in
          ih ∙ ap (λ (o : Option Statements). or_first o (section_in s (p ∷ S))) none
          ∙ ap (λ (b : Bool). if b then Some p.1 else section_in s S) e
          ∙ sym (ap (λ (b : Bool). or_first (if b then Some p.1 else section_in s rest) (section_in s S)) e)
      | inr e ↦
          ih ∙ ap (λ (b : Bool). or_first (section_in s rest) (if b then Some p.1 else section_in s S)) e
          ∙ sym (ap (λ (b : Bool). or_first (if b then Some p.1 else section_in s rest) (section_in s S)) e)
    ]

-- in their order again
ordered_back : (order : List Section) (j : ℕ) (ps G : Sections) → InOrder j order → j + length order ≡ 16 → are_sections j ps ≡ true
    → ((s : Section) → j ≤ section_number s → section_in s G ≡ section_in s ps) → in_order G order ≡ ps
ordered_back [] j [] G o all h same = refl
ordered_back [] j (p ∷ rest) G o all h same =
    let f = first_of j p rest h in let at = f.at in absurd (omega (arith, at, all, number_below p.0 f.section))
ordered_back (s ∷ order) j [] G o all h same =
    ap (λ (b : Option Statements). section_entry s b ++ in_order G order) (same s (omega (arith, o.1)))
    ∙ ordered_back order (suc j) [] G o.2 (omega (arith, all)) refl (λ t at. same t (omega (arith, at)))
ordered_back (s ∷ order) j (p ∷ rest) G o all h same =
    let f = first_of j p rest h in
    let at = f.at in
    let number = o.1 in
    elim (cases_Bool (section_number p.0 == j)) [
      | inl e ↦
          let here : section_number p.0 ≡ j = grind (arith, nat_tests) in
          let is : s ≡ p.0 = same_number s p.0 o.0 f.section (omega (arith, number, here)) in
          let found : section_in s (p ∷ rest) ≡ Some p.1 =
          ap (λ (b : Bool). if b then Some p.1 else section_in s rest) (ap (same_section s) (sym is) ∙ same_self s) in
          let next : are_sections (suc j) rest ≡ true = subst (λ (n : ℕ). are_sections n rest ≡ true) {x = 1 + section_number p.0} (omega
          (arith, here)) f.rest in
          ap (λ (b : Option Statements). section_entry s b ++ in_order G order) (same s (omega (arith, number)) ∙ found)
          ∙ ap₂ (λ (t : Section) (ps : Sections). (t, p.1) ∷ ps) is
          (ordered_back order (suc j) rest G o.2 (omega (arith, all)) next (λ t after. same t (omega (arith, after))
          ∙ ap (λ (b : Bool). if b then Some p.1 else section_in t rest) (differ t p.0 (λ q. omega (arith, q, after, here)))))
      | inr e ↦
          let less : j < section_number p.0 = grind (arith, nat_tests) in
          let h' = later j p rest h less in
          ap (λ (b : Option Statements). section_entry s b ++ in_order G order)
          (same s (omega (arith, number)) ∙ none_above (suc j) (p ∷ rest) s h' (omega (arith, number)))
          ∙ ordered_back order (suc j) (p ∷ rest) G o.2 (omega (arith, all)) h' (λ t after. same t (omega (arith, after)))
    ]

pub sections_back : (ps : Sections) → are_sections 0 ps ≡ true → in_order (onto ps []) all_sections ≡ ps
sections_back ps h =
    ordered_back all_sections 0 ps (onto ps []) all_in_order refl h (λ s at. looked_up 0 ps [] s h ∙ or_none (section_in s ps))
  where
    or_none : (o : Option Statements) → or_first o None ≡ o
    or_none None = refl
    or_none (Some b) = refl
