-- What is decoded is a program, and the bytes are its code.
use Rattle.std.proofs.Common.{◌≡◌, ℕ, zero, suc, ◌+◌, ◌*◌, ◌/◌, ◌%◌, ◌^◌, ◌<◌, ◌≤◌, List, [], ◌∷◌, ◌++◌, length, true, false, Ok, Err, refl, ap, ◌∙◌, arith}
use Rattle.std.proofs.Common.{append_assoc, IsTrue}
use Rattle.std.specs.Prelude.{nat_lt, nat_le, ◌==◌, ◌&&◌, sum_by}
use Rattle.std.proofs.lemmas.Bool.{and_parts, and_from, ltb-true, leb-true, le-leb, eqb-true, eqb-false, eq-eqb, cond_both}
use Rattle.std.proofs.lemmas.List.Sums.{sum_by-cons}
use Rattle.std.proofs.Math.Nat.{pow-succ'}
use Rattle.gq_model.specs.machine.Program.{Statements, Program, size, spelled}
use Rattle.gq_model.specs.machine.Sections.{Section, all_sections, is_section, section_number}
use Rattle.gq_model.specs.machine.Lists.{all_of, between}
use Rattle.gq_model.specs.texts.Operands.{greatest_number}
use Rattle.gq_model.specs.texts.Code.{is_body, are_sections, greatest_statements, IsProgram, body_code, body_length, local_bits}
use Rattle.gq_model.specs.texts.Code.{limits_code, section_bits, sections_code, code_of}
use Rattle.gq_model.specs.texts.Decode.{Truncated, BadOperand, Decoded, cut, number_at, checked, body_at, limits_at, sections_at, decoded}
use Rattle.gq_model.proofs.Holding_results.{Holds, holds_at, holds_then}
use Rattle.gq_model.proofs.Byte_number_spelling.{AreBytes, bytes_by_test}
use Rattle.gq_model.proofs.Decoded_operands.{number_holds, cut_holds, checked_holds, one_byte, IsNumber}
use Rattle.gq_model.proofs.Decoded_bodies.{IsBody, body_holds}

-- LIMITS

-- the limits of n locals, which have these bits
record IsLimits (n bits : ℕ) (bytes : List ℕ) (p : List ℕ × List ℕ) : Type 0 where
  long : length p.0 ≡ n
  fits : all_of (between 0 greatest_number) p.0 ≡ true
  bits_are : local_bits p.0 ≡ bits
  whole : bytes ≡ limits_code p.0 ++ p.1
  rest : AreBytes p.1

pub between_from : (low high n : ℕ) → low ≤ n → n ≤ high → between low high n ≡ true
between_from low high n l h = and_from (nat_le low n) (nat_le n high) (le-leb low n l) (le-leb n high h)

half_small : (n bits : ℕ) → bits < 2 ^ suc n → bits / 2 < 2 ^ n
half_small n bits h = omega (arith, h, pow-succ' 2 n)

given_limit : (n bits limit : ℕ) (bytes rest : List ℕ) (p : List ℕ × List ℕ) → bits % 2 ≡ 1 → nat_lt limit greatest_number ≡ true
    → bytes ≡ spelled 4 limit ++ rest → IsLimits n (bits / 2) rest p → IsLimits (suc n) bits bytes (limit ∷ p.0, p.1)
given_limit n bits limit bytes rest p odd less start l =
    let low = ltb-true limit greatest_number less in
    record {
      long = omega (arith, l.long);
      fits = and_from (between 0 greatest_number limit) (all_of (between 0 greatest_number) p.0)
          (between_from 0 greatest_number limit (omega arith) (omega (arith, low))) l.fits;
      bits_are = rw (less, l.bits_are) (omega (arith, odd));
      whole = start ∙ rw (less, l.whole) refl;
      rest = l.rest;
    }

no_limit : (n bits : ℕ) (bytes : List ℕ) (p : List ℕ × List ℕ) → bits % 2 ≡ 0 → IsLimits n (bits / 2) bytes p
    → IsLimits (suc n) bits bytes (greatest_number ∷ p.0, p.1)
no_limit n bits bytes p even l = record {
  long = omega (arith, l.long);
  fits = l.fits;
  bits_are = rw l.bits_are (omega (arith, even));
  whole = l.whole;
  rest = l.rest;
}

not_odd : (bits : ℕ) → (bits % 2 == 1) ≡ false → bits % 2 ≡ 0
not_odd bits e = let h = eqb-false (bits % 2) 1 e in omega (arith, h)

limits_holds : (n bits : ℕ) (bytes : List ℕ) → bits < 2 ^ n → AreBytes bytes → Holds (IsLimits n bits bytes) (limits_at n bits bytes)
limits_holds zero bits bytes h b = record { long = refl; fits = refl; bits_are = omega (arith, h); whole = refl; rest = b }
limits_holds (suc n) bits bytes h b =
    let P = IsLimits (suc n) bits bytes in
    cond_both (bits % 2 == 1) _ _ (Holds P)
    (λ odd.
    holds_then P (number_at 4 Truncated bytes) _ (number_holds 4 Truncated bytes b) (λ p np.
    holds_then {P = λ q. (q ≡ p) × (nat_lt q.0 greatest_number ≡ true)} P (checked (nat_lt p.0 greatest_number) BadOperand p) _
    (checked_holds _ (nat_lt p.0 greatest_number) BadOperand p (λ t. (refl, t))) (λ q less.
    let nq : IsNumber 4 bytes q = rw less.0 np in
    holds_then P (limits_at n (bits / 2) q.1) _ (limits_holds n (bits / 2) q.1 (half_small n bits h) nq.rest) (λ rest l.
    given_limit n bits q.0 bytes q.1 rest (eqb-true (bits % 2) 1 odd) less.1 nq.whole l))))
    (λ even.
    holds_then P (limits_at n (bits / 2) bytes) _ (limits_holds n (bits / 2) bytes (half_small n bits h) b)
    (λ rest l. no_limit n bits bytes rest (not_odd bits even) l))

-- SECTIONS

abbrev pub Sections : Type 0
Sections = List (Section × Statements)

-- sections from the j-th place on, which have these bits, after k statements
record AreSections (j bits k : ℕ) (bytes : List ℕ) (sections : Sections) : Type 0 where
  fits : are_sections j sections ≡ true
  few : k ≤ greatest_statements → k + sum_by (λ s. size s.1) sections ≤ greatest_statements
  bits_are : 2 ^ j * bits ≡ section_bits sections
  code : bytes ≡ sections_code sections

-- these sections are those from the j-th place on
abbrev pub InOrder : ℕ → List Section → Type 0
InOrder j [] = Unit {0}
InOrder j (s ∷ order) = (is_section s ≡ true) × (section_number s ≡ j) × InOrder (suc j) order

pub all_in_order : InOrder 0 all_sections
all_in_order = search

-- sections from a later place on
pub sections_later : (j : ℕ) (sections : Sections) → are_sections (suc j) sections ≡ true → are_sections j sections ≡ true
sections_later j [] e = refl
sections_later j (p ∷ rest) e =
    let n = section_number p.0 in
    let a = and_parts (is_section p.0 && nat_le (suc j) n && is_body 4 p.1) (are_sections (1 + n) rest) e in
    let b = and_parts (is_section p.0 && nat_le (suc j) n) (is_body 4 p.1) a.0 in
    let c = and_parts (is_section p.0) (nat_le (suc j) n) b.0 in
    let later : nat_le j n ≡ true = le-leb j n (let h = leb-true (suc j) n c.1 in omega (arith, h)) in
    and_from (is_section p.0 && nat_le j n && is_body 4 p.1) (are_sections (1 + n) rest)
    (and_from (is_section p.0 && nat_le j n) (is_body 4 p.1) (and_from (is_section p.0) (nat_le j n) c.0 later) b.1) a.1

-- half of what is left of the bits, at twice the value
bits_next : (j b bits half : ℕ) → bits ≡ b + 2 * half → 2 ^ j * bits ≡ 2 ^ j * b + 2 ^ suc j * half
bits_next j b bits half e = rw (e, pow-succ' 2 j) (omega arith)

section_code : (a : ℕ) (body after code rest : List ℕ) → body ≡ code → after ≡ rest → length body ≡ a
    → spelled 4 a ++ body ++ after ≡ body_length code ++ code ++ rest
section_code a body after code rest e f l = rw (← e, ← f, ← l) refl

given_section : (s : Section) (j bits k a : ℕ) (bytes body after : List ℕ) (x : Statements × ℕ) (rest : Sections) → is_section s ≡ true → section_number s ≡ j
    → bits % 2 ≡ 1 → bytes ≡ spelled 4 a ++ body ++ after → length body ≡ a → IsBody 4 k body x → AreSections (suc j) (bits / 2) x.1 after rest
    → AreSections j bits k bytes ((s, x.0) ∷ rest)
given_section s j bits k a bytes body after x rest is number odd whole long b r =
    let n = section_number s in
    let here : nat_le j n ≡ true = le-leb j n (omega (arith, number)) in
    let next : are_sections (1 + n) rest ≡ true = ap (λ m. are_sections m rest) {x = 1 + n} {y = suc j} (omega (arith, number)) ∙ r.fits in
    let sum = sum_by-cons (λ (s : Section × Statements). size s.1) (s, x.0) rest in
    let bits_sum = sum_by-cons (λ (p : Section × Statements). 2 ^ section_number p.0) (s, x.0) rest in
    let one : 2 ^ n ≡ 2 ^ j = ap (λ m. 2 ^ m) number in
    record {
      fits = and_from (is_section s && nat_le j n && is_body 4 x.0) (are_sections (1 + n) rest)
          (and_from (is_section s && nat_le j n) (is_body 4 x.0) (and_from (is_section s) (nat_le j n) is here) b.body) next;
      few = λ h. let more = r.few (b.few h) in omega (arith, more, sum, b.count);
      bits_are = let step = bits_next j 1 bits (bits / 2) (omega (arith, odd)) in let after = r.bits_are in omega (arith, step, after, bits_sum, one);
      code = whole ∙ section_code a body after (body_code x.0) (sections_code rest) b.code r.code long;
    }

absent_section : (j bits k : ℕ) (bytes : List ℕ) (rest : Sections) → bits % 2 ≡ 0 → AreSections (suc j) (bits / 2) k bytes rest
    → AreSections j bits k bytes rest
absent_section j bits k bytes rest even r =
    let step = bits_next j 0 bits (bits / 2) (omega (arith, even)) in
    let after = r.bits_are in record { fits = sections_later j rest r.fits; few = r.few; bits_are = omega (arith, step, after); code = r.code }

sections_holds : (order : List Section) (j bits k : ℕ) (bytes : List ℕ) → InOrder j order → bits < 2 ^ length order → AreBytes bytes
    → Holds (AreSections j bits k bytes) (sections_at order bits k bytes)
sections_holds [] j bits k [] o h b =
    let none : bits ≡ 0 = omega (arith, h) in record { fits = refl; few = λ l. omega (arith, l); bits_are = rw none (omega arith); code = refl }
sections_holds [] j bits k (c ∷ bytes) o h b = tt
sections_holds (s ∷ order) j bits k bytes o h b =
    let P = AreSections j bits k bytes in
    let half = half_small (length order) bits h in
    cond_both (bits % 2 == 1) _ _ (Holds P)
    (λ odd.
    holds_then P (number_at 4 Truncated bytes) _ (number_holds 4 Truncated bytes b) (λ p np.
    holds_then P (cut p.0 Truncated p.1) _ (cut_holds p.0 Truncated p.1 np.rest) (λ body cb.
    holds_then P (body_at (length body.0) 4 k body.0) _ (body_holds (length body.0) 4 k body.0 cb.first) (λ x bx.
    holds_then P (sections_at order (bits / 2) x.1 body.1) _ (sections_holds order (suc j) (bits / 2) x.1 body.1 o.2 half cb.rest) (λ rest r.
    given_section s j bits k p.0 bytes body.0 body.1 x rest o.0 o.1 (eqb-true (bits % 2) 1 odd) (np.whole
    ∙ ap (λ l. spelled 4 p.0 ++ l) cb.whole) cb.long bx r)))))
    (λ even. sections_absent order j bits k bytes (not_odd bits even) (sections_at order (bits / 2) k bytes)
    (sections_holds order (suc j) (bits / 2) k bytes o.2 half b))
  where
    sections_absent : (order : List Section) (j bits k : ℕ) (bytes : List ℕ) → bits % 2 ≡ 0 → (x : Decoded Sections)
        → Holds (AreSections (suc j) (bits / 2) k bytes) x → Holds (AreSections j bits k bytes) x
    sections_absent order j bits k bytes even (Ok rest) r = absent_section j bits k bytes rest even r
    sections_absent order j bits k bytes even (Err fault) r = tt

-- PROGRAMS

-- a program of which these bytes are the code
pub record IsCoded (bytes : List ℕ) (p : Program) : Type 0 where
  pub program : IsProgram p
  pub code : code_of p ≡ bytes

whole_code : (bits present b q : ℕ) (bytes after rest third limits sections : List ℕ) → bytes ≡ bits ∷ after → after ≡ limits ++ rest
    → rest ≡ spelled 2 present ++ third → third ≡ sections → b ≡ bits → present ≡ q → b ∷ limits ++ spelled 2 q ++ sections ≡ bytes
whole_code bits present b q bytes after rest third limits sections e f g h k l =
    rw (e, f, g, ← h, k, ← l) (ap (λ m. bits ∷ m) (append_assoc limits (spelled 2 present) third))

program_is : (bits present : ℕ) (bytes after third : List ℕ) (limits : List ℕ × List ℕ) (sections : Sections) → bits < 256 → bytes ≡ bits ∷ after
    → IsLimits 8 bits after limits → limits.1 ≡ spelled 2 present ++ third → AreSections 0 present 0 third sections
    → IsCoded bytes (record { sections = sections; locals = limits.0 })
program_is bits present bytes after third limits sections small start l e s =
    let bits_are : present ≡ section_bits sections = let k = s.bits_are in omega (arith, k) in
    let few = s.few (omega arith) in
    record {
      program = and_from (length limits.0 == 8 && all_of (between 0 greatest_number) limits.0 && are_sections 0 sections)
          (nat_le (sum_by (λ s. size s.1) sections) greatest_statements)
          (and_from (length limits.0 == 8 && all_of (between 0 greatest_number) limits.0) (are_sections 0 sections)
          (and_from (length limits.0 == 8) (all_of (between 0 greatest_number) limits.0) (eq-eqb (length limits.0) 8 l.long) l.fits) s.fits)
          (le-leb (sum_by (λ s. size s.1) sections) greatest_statements (omega (arith, few)));
      code = whole_code bits present (local_bits limits.0) (section_bits sections) bytes after limits.1 third (limits_code limits.0)
          (sections_code sections) start l.whole e s.code l.bits_are bits_are;
    }

decoded_holds : (bytes : List ℕ) → AreBytes bytes → Holds (IsCoded bytes) (decoded bytes)
decoded_holds bytes b =
    let P = IsCoded bytes in
    holds_then P (number_at 1 Truncated bytes) _ (number_holds 1 Truncated bytes b) (λ bits nb.
    holds_then P (limits_at 8 bits.0 bits.1) _ (limits_holds 8 bits.0 bits.1 (nb.short.0 refl) nb.rest) (λ limits l.
    holds_then P (number_at 2 Truncated limits.1) _ (number_holds 2 Truncated limits.1 l.rest) (λ q nq.
    holds_then P (sections_at all_sections q.0 0 q.1) _ (sections_holds all_sections 0 q.0 0 q.1 all_in_order (nq.short.1 refl) nq.rest) (λ sections s.
    program_is bits.0 q.0 bytes bits.1 q.1 limits sections (nb.short.0 refl) (nb.whole
    ∙ ap (λ l. l ++ bits.1) (one_byte bits.0 (nb.short.0 refl))) l nq.whole s))))

-- whatever bytes are decoded to is a program, and they are its code
pub decoded_is : (bytes : List ℕ) (p : Program) → IsTrue (all_of (between 0 255) bytes) → decoded bytes ≡ Ok p → IsCoded bytes p
decoded_is bytes p b e = holds_at (IsCoded bytes) (decoded bytes) p (decoded_holds bytes (bytes_by_test bytes b)) e
