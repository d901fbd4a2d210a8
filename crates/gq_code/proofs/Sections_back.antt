-- The code of sections is read back as these sections.
use Rattle.std.proofs.Common.{◌≡◌, ℕ, zero, suc, ◌+◌, ◌*◌, ◌/◌, ◌%◌, ◌^◌, ◌<◌, ◌≤◌, List, [], ◌∷◌, ◌++◌, get_or, ◌-◌, length, true, ◌==◌, Ok, Err}
use Rattle.std.proofs.Common.{refl, ap, sym, ◌∙◌, arith, append_assoc, inl, inr}
use Rattle.std.specs.Prelude.{nat_le, sum_by, ◌&&◌}
use Rattle.std.proofs.lemmas.Bool.{and_parts, and_from, leb-true, le-leb, eq-eqb, ne_eqb, cases_lt}
use Rattle.std.proofs.lemmas.Nat.{pow_pos, pow-add}
use Rattle.std.proofs.lemmas.List.Sums.{sum_by-cons}
use Rattle.std.proofs.Math.Nat.{pow-succ', eq_of_mul-eq-mul_left}
use Rattle.gq_model.specs.declared.fault.CodeFault.TheVariants.{TrailingBytes}
use Rattle.gq_model.specs.declared.section.Section.{Section}
use Rattle.gq_model.specs.declared.section.Section.TheVariants.{Main, Opening, Upgrading, Calling, Closing}
use Rattle.gq_model.specs.machine.Program.{Statements, size}
use Rattle.gq_model.specs.machine.Sections.{all_sections, is_section, section_number}
use Rattle.gq_model.specs.texts.Code.{are_sections, section_bits, sections_code, body_code, body_length, is_body}
use Rattle.gq_model.specs.texts.Code.{greatest_statements}
use Rattle.gq_model.specs.texts.Decode.{Decoded, sections_at}
use Rattle.gq_model.proofs.Decoded_programs.{InOrder}
use Rattle.gq_code.specs.internal.Bodies.{section_at, after_sections}
use Rattle.gq_code.proofs.Coded_body_decoding.{then_along}
use Rattle.gq_code.proofs.Bodies_back.{section_back}
use Rattle.gq_model.proofs.Section_laws.{at_number, first_of, number_below, same_number}
use Rattle.gq_code.proofs.Section_order_bits.{Sections}
use Rattle.gq_code.proofs.Coded_section_limits.{section_given, section_absent}

-- ORDER

-- sections from the n-th place on, the first of which stands later
later : (n : ℕ) (p : Section × Statements) (rest : Sections) → are_sections n (p ∷ rest) ≡ true → n < section_number p.0 →
    are_sections (suc n) (p ∷ rest) ≡ true
later n p rest h less =
    let f = first_of n p rest h in
    let k = section_number p.0 in
    and_from (is_section p.0 && nat_le (suc n) k && is_body 4 p.1) (are_sections (1 + k) rest)
    (and_from (is_section p.0 && nat_le (suc n) k) (is_body 4 p.1) (and_from (is_section p.0) (nat_le (suc n) k) f.section (le-leb (suc n) k less)) f.body)
    f.rest

-- BITS

-- the bits of sections from the n-th place on are a multiple of its value
multiple : (n : ℕ) (sections : Sections) → are_sections n sections ≡ true → (q : ℕ) × (section_bits sections ≡ 2 ^ n * q)
multiple n [] h = (0, omega arith)
multiple n (p ∷ rest) h =
    let f = first_of n p rest h in
    let k = section_number p.0 in
    let r = multiple (1 + k) rest f.rest in
    let at = power n k f.at in
    let sum = sum_by-cons (λ (p : Section × Statements). 2 ^ section_number p.0) p rest in (
      at.0 + 2 * at.0 * r.0,
      whole n (section_bits (p ∷ rest)) (section_bits rest) (2 ^ k) (2 ^ (1 + k)) at.0 r.0 sum r.1 at.1
          (ap (λ m. 2 ^ m) {x = 1 + k} {y = suc k} (omega arith) ∙ pow-succ' 2 k),
    )
  where
    power : (n k : ℕ) → n ≤ k → (q : ℕ) × (2 ^ k ≡ 2 ^ n * q)
    power n k h = (2 ^ (k - n), ap (λ m. 2 ^ m) {x = k} {y = n + (k - n)} (omega (arith, h)) ∙ pow-add 2 n (k - n))

    whole : (n all bits a b q r : ℕ) → all ≡ a + bits → bits ≡ b * r → a ≡ 2 ^ n * q → b ≡ 2 * a → all ≡ 2 ^ n * (q + 2 * q * r)
    whole n all bits a b q r e f g h = rw (e, f, h, g) (omega arith)

cancelled : (n a b : ℕ) → 2 ^ n * a ≡ 2 ^ n * b → a ≡ b
cancelled n a b e = eq_of_mul-eq-mul_left (2 ^ n) (pow_pos n) a b e

-- SECTIONS

-- these sections, if nothing follows them
abbrev pub ended : List ℕ → Sections → Decoded Sections
ended [] sections = Ok sections
ended (b ∷ rest) sections = Err TrailingBytes

ended_first : (rest : List ℕ) (s : Section) (p : Section × Statements) (sections : Sections) → s ≡ p.0 →
    after_sections ((s, p.1) ∷ []) (ended rest sections) ≡ ended rest (p ∷ sections)
ended_first [] s p sections e = ap (λ s. Ok ((s, p.1) ∷ sections)) e
ended_first (b ∷ rest) s p sections e = refl

-- the section at this place is not there
skipped : (s : Section) (order : List Section) (bits half k : ℕ) (bytes : List ℕ) → bits ≡ 2 * half →
    sections_at (s ∷ order) bits k bytes ≡ sections_at order half k bytes
skipped s order bits half k bytes e =
    section_absent (bits % 2 == 1) s order bits k bytes (ne_eqb (bits % 2) 1 (λ f. omega (arith, e, f))) ∙
    ap (λ h. sections_at order h k bytes) {x = bits / 2} {y = half} (omega (arith, e))

-- it is there
read_first : (s : Section) (order : List Section) (bits half k m : ℕ) (bytes rest : List ℕ) (body : Statements) (after : Decoded Sections) →
    bits ≡ 1 + 2 * half → section_at k bytes ≡ Ok (body, (m, rest)) → sections_at order half m rest ≡ after →
    sections_at (s ∷ order) bits k bytes ≡ after_sections ((s, body) ∷ []) after
read_first s order bits half k m bytes rest body after e f g =
    section_given (bits % 2 == 1) s order bits k bytes (eq-eqb (bits % 2) 1 (omega (arith, e)))
    ∙ (then_along _ f ∙ ap (after_sections ((s, body) ∷ [])) (ap (λ h. sections_at order h m rest) {x = bits / 2} {y = half} (omega (arith, e)) ∙ g))

pub sections_back : (order : List Section) (j bits k : ℕ) (sections : Sections) (rest : List ℕ) → InOrder j order → j + length order ≡ 16 →
    are_sections j sections ≡ true → 2 ^ j * bits ≡ section_bits sections → k + sum_by (λ s. size s.1) sections ≤ greatest_statements →
    sections_at order bits k (sections_code sections ++ rest) ≡ ended rest sections
sections_back [] j bits k [] [] o end h b few = refl
sections_back [] j bits k [] (c ∷ rest) o end h b few = refl
sections_back [] j bits k (p ∷ sections) rest o end h b few =
    let f = first_of j p sections h in
    let high = f.at in let low = number_below p.0 f.section in absurd (omega (arith, high, low, end))
sections_back (s ∷ order) j bits k [] rest o end h b few =
    let none : bits ≡ 0 = cancelled j bits 0 (omega (arith, b)) in
    skipped s order bits 0 k rest (omega (arith, none)) ∙ sections_back order (suc j) 0 k [] rest o.2 (omega (arith, end)) refl (omega arith) few
sections_back (s ∷ order) j bits k (p ∷ sections) rest o end h b few =
    let f = first_of j p sections h in
    let n = section_number p.0 in
    let sum = sum_by-cons (λ (s : Section × Statements). size s.1) p sections in
    let bits_sum = sum_by-cons (λ (p : Section × Statements). 2 ^ section_number p.0) p sections in
    elim (cases_lt j n) [
      | inl less ↦
          let after = later j p sections h less in
          let q = multiple (suc j) (p ∷ sections) after in
          let half : bits ≡ 2 * q.0 = cancelled j bits (2 * q.0) (b ∙ (q.1 ∙ twice j q.0)) in
          skipped s order bits q.0 k (sections_code (p ∷ sections) ++ rest) half ∙
          sections_back order (suc j) q.0 k (p ∷ sections) rest o.2 (omega (arith, end)) after (sym q.1) few
      | inr more ↦
          let at : n ≡ j = let low = f.at in omega (arith, low, more) in
          let next : are_sections (suc j) sections ≡ true = ap (λ m. are_sections m sections) {x = suc j} {y = 1 + n} (omega (arith, at)) ∙ f.rest in
          let q = multiple (suc j) sections next in
          let one : 2 ^ n ≡ 2 ^ j = ap (λ m. 2 ^ m) at in
          let half : bits ≡ 1 + 2 * q.0 = cancelled j bits (1 + 2 * q.0) (b ∙ (bits_sum ∙ odd j (2 ^ n) (section_bits sections) q.0 one q.1)) in
          let code = body_code p.1 in
          let more = sections_code sections ++ rest in
          let few_here : k + size p.1 ≤ greatest_statements = omega (arith, few, sum) in
          let few_after : k + size p.1 + sum_by (λ s. size s.1) sections ≤ greatest_statements = omega (arith, few, sum) in
          ap (λ l. sections_at (s ∷ order) bits k (body_length code ++ l)) (append_assoc code (sections_code sections) rest)
          ∙ (read_first s order bits q.0 k (k + size p.1) (body_length code ++
          (code ++ more)) more p.1 (ended rest sections) half (section_back p.1 k more f.body few_here) (sections_back order (suc j) q.0 (k +
          size p.1) sections rest o.2 (omega (arith, end)) next (sym q.1) few_after)
          ∙ ended_first rest s p sections (same_number s p.0 o.0 f.section (o.1 ∙ sym at)))
    ]
  where
    twice : (j q : ℕ) → 2 ^ suc j * q ≡ 2 ^ j * (2 * q)
    twice j q = rw (pow-succ' 2 j) (omega arith)

    odd : (j one bits q : ℕ) → one ≡ 2 ^ j → bits ≡ 2 ^ suc j * q → one + bits ≡ 2 ^ j * (1 + 2 * q)
    odd j one bits q e f = rw (e, f, pow-succ' 2 j) (omega arith)
