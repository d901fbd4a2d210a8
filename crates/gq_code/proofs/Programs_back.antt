-- The code of a program is read back as that program, and nothing may follow it.
use Rattle.std.proofs.Common.{◌≡◌, ℕ, ◌+◌, ◌*◌, ◌^◌, ◌<◌, ◌≤◌, List, [], ◌∷◌, ◌++◌, length, true, ◌==◌, Ok, Err, refl, ap, sym, ◌∙◌, arith}
use Rattle.std.proofs.Common.{append_assoc, append-nil, inl, inr, ◌⊎◌}
use Rattle.std.specs.Prelude.{nat_le, sum_by, ◌&&◌}
use Rattle.std.proofs.lemmas.Bool.{and_parts, leb-true, eqb-true}
use Rattle.gq_model.specs.declared.fault.CodeFault.TheVariants.{Truncated, TrailingBytes}
use Rattle.gq_model.specs.machine.Program.{Program, size, spelled}
use Rattle.gq_model.specs.machine.Sections.{all_sections}
use Rattle.gq_model.specs.machine.Lists.{all_of, between}
use Rattle.gq_model.specs.texts.Operands.{greatest_number}
use Rattle.gq_model.specs.texts.Code.{IsProgram, are_sections, local_bits, limits_code, section_bits, sections_code, code_of, greatest_statements}
use Rattle.gq_model.specs.texts.Decode.{Decoded, decoded_then, number_at, limits_at, decoded}
use Rattle.gq_model.proofs.Code_laws.{number_at-spelled_2}
use Rattle.gq_model.proofs.Decoded_programs.{all_in_order}
use Rattle.gq_code.proofs.Section_order_bits.{Sections, bits_below}
use Rattle.gq_code.proofs.Limits_back.{local_bits_below, limits_back}
use Rattle.gq_code.proofs.Sections_back.{ended, sections_back}
use Rattle.gq_code.proofs.Coded_section_limits.{program, decoded_sections}

-- the program, if nothing follows it
abbrev closed : List ℕ → Program → Decoded Program
closed [] p = Ok p
closed (b ∷ rest) p = Err TrailingBytes

closed_is : (rest limits : List ℕ) (sections : Sections) →
    decoded_then (ended rest sections) (λ sections. Ok (program limits sections)) ≡ closed rest (program limits sections)
closed_is [] limits sections = refl
closed_is (b ∷ rest) limits sections = refl

-- what a program is
pub record AreParts (p : Program) : Type 0 where
  pub eight : length p.locals ≡ 8
  pub limits : all_of (between 0 greatest_number) p.locals ≡ true
  pub sections : are_sections 0 p.sections ≡ true
  pub few : sum_by (λ s. size s.1) p.sections ≤ greatest_statements

pub parts_of : (p : Program) → IsProgram p → AreParts p
parts_of p h =
    let count = sum_by (λ s. size s.1) p.sections in
    let a = and_parts (length p.locals == 8 && all_of (between 0 greatest_number) p.locals && are_sections 0 p.sections) (nat_le count greatest_statements) h in
    let b = and_parts (length p.locals == 8 && all_of (between 0 greatest_number) p.locals) (are_sections 0 p.sections) a.0 in
    let c = and_parts (length p.locals == 8) (all_of (between 0 greatest_number) p.locals) b.0 in
    record { eight = eqb-true (length p.locals) 8 c.0; limits = c.1; sections = b.1; few = leb-true count greatest_statements a.1 }

-- the parts of its code, in the order in which they are read
parts_code : (b : ℕ) (limits bits sections rest : List ℕ) → (b ∷ limits ++ bits ++ sections) ++ rest ≡ b ∷ (limits ++ (bits ++ (sections ++ rest)))
parts_code b limits bits sections rest =
    ap (λ l. b ∷ l) (append_assoc (limits ++ bits) sections rest ∙ append_assoc limits bits (sections ++ rest))

code_read : (p : Program) (rest : List ℕ) → AreParts p → decoded (code_of p ++ rest) ≡ closed rest p
code_read p rest h =
    let b = local_bits p.locals in
    let limits = limits_code p.locals in
    let bits = section_bits p.sections in
    let third = sections_code p.sections ++ rest in
    let second = spelled 2 bits ++ third in
    let first = limits ++ second in
    let small : b < 256 = let k = local_bits_below p.locals in let e = ap (λ n. 2 ^ n) h.eight in omega (arith, k, e) in
    let below = bits_below 0 p.sections (omega arith) h.sections in
    let eight : limits_at 8 b first ≡ Ok (p.locals, second) = ap (λ n. limits_at n b first) (sym h.eight) ∙ limits_back p.locals second h.limits in
    let head : number_at 1 Truncated (b ∷ first) ≡ Ok (b, first) = ap (λ n. Ok (n, first)) {x = b + 256 * 0} {y = b} (omega arith) in
    ap decoded (parts_code b limits (spelled 2 bits) (sections_code p.sections) rest)
    ∙ (decoded_sections (b ∷
    first) first second third p.locals b bits head eight (number_at-spelled_2 Truncated bits third (omega (arith, below)))
    ∙ (ap (λ x. decoded_then x (λ sections.
    Ok (program p.locals sections))) (sections_back all_sections 0 bits 0 p.sections rest all_in_order refl h.sections (omega arith) (let few =
    h.few in omega (arith, few)))
    ∙ closed_is rest p.locals p.sections))

-- the code of a program is decoded as that program
pub read_back : (p : Program) → IsProgram p → decoded (code_of p) ≡ Ok p
read_back p h = ap decoded (sym (append-nil (code_of p))) ∙ code_read p [] (parts_of p h)

-- and is refused with a byte after it
pub refused_longer : (p : Program) (b : ℕ) (rest : List ℕ) → IsProgram p → decoded (code_of p ++ b ∷ rest) ≡ Err TrailingBytes
refused_longer p b rest h = code_read p (b ∷ rest) (parts_of p h)

-- PREFIXES

-- no code of a program is a proper prefix of another's
pub no_prefix : (p q : Program) (rest : List ℕ) → IsProgram p → IsProgram q → code_of q ≡ code_of p ++ rest → (p ≡ q) × (rest ≡ [])
no_prefix p q [] h k e = (ok_same p q (sym (read_back p h) ∙ (ap decoded (sym (e ∙ append-nil (code_of p))) ∙ read_back q k)), refl)
  where
    ok_same : (p q : Program) → ◌≡◌ {A = Decoded Program} (Ok p) (Ok q) → p ≡ q
    ok_same p q e = cc
no_prefix p q (b ∷ rest) h k e = absurd (no_both q (sym (read_back q k) ∙ (ap decoded e ∙ refused_longer p b rest h)))
  where
    no_both : (q : Program) → ◌≡◌ {A = Decoded Program} (Ok q) (Err TrailingBytes) → ⊥
    no_both q e = cc

-- of two lists with the same beginning one is a prefix of the other
abbrev Prefixes : List ℕ → List ℕ → List ℕ → List ℕ → Type 0
Prefixes xs ys a b = ((r : List ℕ) × (ys ≡ xs ++ r) × (a ≡ r ++ b)) ⊎ ((r : List ℕ) × (xs ≡ ys ++ r) × (b ≡ r ++ a))

prefixes : (xs ys a b : List ℕ) → xs ++ a ≡ ys ++ b → Prefixes xs ys a b
prefixes [] ys a b e = inl (ys, refl, e)
prefixes (x ∷ xs) [] a b e = inr (x ∷ xs, refl, sym e)
prefixes (x ∷ xs) (y ∷ ys) a b e =
    let first : x ≡ y = cc in
    let rest : xs ++ a ≡ ys ++ b = cc in
    elim (prefixes xs ys a b rest) [
      | inl r ↦ inl (r.0, rw (← first) (ap (λ l. x ∷ l) r.1), r.2)
      | inr r ↦ inr (r.0, rw first (ap (λ l. y ∷ l) r.1), r.2)
    ]

-- where two codes begin the same bytes, they are one, and so is what follows them
pub one_spelling : (p q : Program) (a b : List ℕ) → IsProgram p → IsProgram q → code_of p ++ a ≡ code_of q ++ b → (p ≡ q) × (a ≡ b)
one_spelling p q a b h k e =
    elim (prefixes (code_of p) (code_of q) a b e) [
      | inl r ↦ let same = no_prefix p q r.0 h k r.1 in (same.0, r.2 ∙ ap (λ l. l ++ b) same.1)
      | inr r ↦ let same = no_prefix q p r.0 k h r.1 in (sym same.0, sym (r.2 ∙ ap (λ l. l ++ a) same.1))
    ]
