-- Limits of locals and sections, one after the other.
use Rattle.std.proofs.Common.{◌≡◌, ◌<◌, ◌≤◌, ◌+◌, ◌-◌, ◌/◌, ◌%◌, ℕ, suc, arith, ◌==◌, if◌then◌else◌, Bool, true, false, List, [], ◌∷◌, ◌++◌, take}
use Rattle.std.proofs.Common.{drop, set, length, get_or, append_assoc, append-nil, eq-eqb, lt-ltb, inl, inr, Ok, Err, refl, ap, sym, ◌∙◌}
use Rattle.std.specs.Prelude.{nat_lt}
use Rattle.std.proofs.Math.Seq.{drop-cons, take-length}
use Rattle.std.proofs.lemmas.List.{take_more_set}
use Rattle.std.proofs.lemmas.Bool.Decides.{eqb_tells}
use Rattle.gq_model.specs.declared.fault.CodeFault.{CodeFault}
use Rattle.gq_model.specs.declared.fault.CodeFault.TheVariants.{Truncated, BadOperand}
use Rattle.gq_model.specs.declared.section.Section.{Section}
use Rattle.gq_model.specs.declared.section.Section.TheVariants.{Main}
use Rattle.gq_model.specs.machine.Program.{Statements, Program}
use Rattle.gq_model.specs.machine.Sections.{all_sections}
use Rattle.gq_model.specs.texts.Operands.{greatest_number}
use Rattle.gq_model.specs.texts.Decode.{Decoded, decoded_then, cut, number_at, checked, limits_at, sections_at, decoded}
use Rattle.gq_code.specs.internal.Decoding.{limit_at, after_limits}
use Rattle.gq_code.specs.declared.decode.DecodeError.{DecodeError}
use Rattle.gq_code.specs.declared.decode.DecodeError.TheVariants.{Memory, Fault}
use Rattle.gq_code.specs.Decoded.{IsDecoded}
use Rattle.gq_code.specs.internal.Bodies.{Fails, body_in, section_at, after_sections}
use Rattle.gq_code.proofs.Coded_body_decoding.{through, then_along}

pub bit_is : (n : ℕ) → n ≡ 1 → (n == 1) ≡ true
bit_is n h = eq-eqb n 1 h

pub bit_not : (n : ℕ) → (n ≡ 1 → ⊥) → (n == 1) ≡ false
bit_not n h = elim (eqb_tells n 1) [ inl p ↦ absurd (h p.1) | inr p ↦ p.0 ]

-- LIMITS

limits_if : (b : Bool) (n bits : ℕ) (bytes : List ℕ) →
    (if b then decoded_then (number_at 4 Truncated bytes) (λ p.
    decoded_then (checked (nat_lt p.0 greatest_number) BadOperand p) (λ q.
    decoded_then (limits_at n (bits / 2) q.1) (λ rest.
    Ok (q.0 ∷ rest.0, rest.1)))) else decoded_then (limits_at n (bits / 2) bytes) (λ rest. Ok (greatest_number ∷ rest.0, rest.1))) ≡
    decoded_then (limit_at b bytes) (λ p. after_limits (p.0 ∷ []) (limits_at n (bits / 2) p.1))
limits_if true n bits bytes = through (number_at 4 Truncated bytes) _ _ _ (λ p. refl)
limits_if false n bits bytes = refl

pub limits_step : (n bits : ℕ) (bytes : List ℕ) →
    limits_at (suc n) bits bytes ≡ decoded_then (limit_at (bits % 2 == 1) bytes) (λ p. after_limits (p.0 ∷ []) (limits_at n (bits / 2) p.1))
limits_step n bits bytes = limits_if (bits % 2 == 1) n bits bytes

-- the next value comes first
limits_next : (i bits : ℕ) (bytes : List ℕ) → i < 8 →
    limits_at (8 - i) bits bytes ≡ decoded_then (limit_at (bits % 2 == 1) bytes) (λ p. after_limits (p.0 ∷ []) (limits_at (8 - (i + 1)) (bits / 2) p.1))
limits_next i bits bytes h = ap (λ n. limits_at n bits bytes) {x = 8 - i} {y = suc (8 - (i + 1))} (omega (arith, h)) ∙ limits_step (8 - (i + 1)) bits bytes

after_limits_twice : (a b : List ℕ) (x : Decoded (List ℕ × List ℕ)) → after_limits (a ++ b) x ≡ after_limits a (after_limits b x)
after_limits_twice a b (Ok p) = ap (λ l. Ok (l, p.1)) (append_assoc a b p.0)
after_limits_twice a b (Err fault) = refl

pub limits_start : (all : Decoded (List ℕ × List ℕ)) → after_limits [] all ≡ all
limits_start (Ok p) = refl
limits_start (Err fault) = refl

pub limits_turn : (limits : List ℕ) (i bits limit : ℕ) (left rest : List ℕ) (all : Decoded (List ℕ × List ℕ)) → i < 8 → length limits ≡ 8 →
    after_limits (take i limits) (limits_at (8 - i) bits left) ≡ all → limit_at (bits % 2 == 1) left ≡ Ok (limit, rest) →
    after_limits (take (i + 1) (set limits i limit)) (limits_at (8 - (i + 1)) (bits / 2) rest) ≡ all
limits_turn limits i bits limit left rest all h eight inv e =
    let next = limits_at (8 - (i + 1)) (bits / 2) rest in
    ap (λ l. after_limits l next) (take_more_set limits i limit (omega (arith, h, eight)))
    ∙ (after_limits_twice (take i limits) (limit ∷ []) next
    ∙ (ap (after_limits (take i limits)) (sym (limits_next i bits left h ∙
    ap (λ x. decoded_then x (λ p. after_limits (p.0 ∷ []) (limits_at (8 - (i + 1)) (bits / 2) p.1))) e)) ∙ inv))

pub limits_stop : (limits : List ℕ) (i bits : ℕ) (left : List ℕ) (fault : CodeFault) (all : Decoded (List ℕ × List ℕ)) → i < 8 →
    after_limits (take i limits) (limits_at (8 - i) bits left) ≡ all → limit_at (bits % 2 == 1) left ≡ Err fault → all ≡ Err fault
limits_stop limits i bits left fault all h inv e =
    sym inv
    ∙ ap (after_limits (take i limits))
    (limits_next i bits left h ∙ ap (λ x. decoded_then x (λ p. after_limits (p.0 ∷ []) (limits_at (8 - (i + 1)) (bits / 2) p.1))) e)

pub limits_end : (limits : List ℕ) (i bits : ℕ) (left : List ℕ) (all : Decoded (List ℕ × List ℕ)) → 8 ≤ i → i ≤ 8 → length limits ≡ 8 →
    after_limits (take i limits) (limits_at (8 - i) bits left) ≡ all → all ≡ Ok (limits, left)
limits_end limits i bits left all h l eight inv =
    sym inv
    ∙ (ap (λ n. after_limits (take i limits) (limits_at n bits left)) {x = 8 - i} {y = 0} (omega (arith, h))
    ∙ (ap (λ l. Ok (l, left)) (append-nil (take i limits))
    ∙ (ap (λ n. Ok (take n limits, left)) {x = i} {y = length limits} (omega (arith, h, l, eight)) ∙ ap (λ l. Ok (l, left)) (take-length limits))))

-- SECTIONS

abbrev Sections : Type 0
Sections = List (Section × Statements)

pub section_given : (b : Bool) (s : Section) (order : List Section) (bits k : ℕ) (bytes : List ℕ) → b ≡ true →
    (if b then decoded_then (number_at 4 Truncated bytes) (λ p.
    decoded_then (cut p.0 Truncated p.1) (λ body.
    decoded_then (body_in 4 k body.0) (λ x.
    decoded_then (sections_at order (bits / 2) x.1 body.1) (λ sections.
    Ok ((s, x.0) ∷ sections))))) else sections_at order (bits / 2) k bytes) ≡
    decoded_then (section_at k bytes) (λ x. after_sections ((s, x.0) ∷ []) (sections_at order (bits / 2) x.1.0 x.1.1))
section_given true s order bits k bytes e =
    through (number_at 4 Truncated bytes) _ _ _ (λ p. through (cut p.0 Truncated p.1) _ _ _ (λ body. through (body_in 4 k body.0) _ _ _ (λ x. refl)))
section_given false s order bits k bytes e = cc

pub section_absent : (b : Bool) (s : Section) (order : List Section) (bits k : ℕ) (bytes : List ℕ) → b ≡ false →
    (if b then decoded_then (number_at 4 Truncated bytes) (λ p.
    decoded_then (cut p.0 Truncated p.1) (λ body.
    decoded_then (body_in 4 k body.0) (λ x.
    decoded_then (sections_at order (bits / 2) x.1 body.1) (λ sections.
    Ok ((s, x.0) ∷ sections))))) else sections_at order (bits / 2) k bytes) ≡ sections_at order (bits / 2) k bytes
section_absent true s order bits k bytes e = cc
section_absent false s order bits k bytes e = refl

after_sections_twice : (a b : Sections) (x : Decoded Sections) → after_sections (a ++ b) x ≡ after_sections a (after_sections b x)
after_sections_twice a b (Ok s) = ap Ok (append_assoc a b s)
after_sections_twice a b (Err fault) = refl

-- the section at that place comes next
order_next : (order : List Section) (i : ℕ) → i < length order → drop i order ≡ get_or order i Main ∷ drop (i + 1) order
order_next order i h = drop-cons order i Main h ∙ ap (λ n. get_or order i Main ∷ drop n order) {x = suc i} {y = i + 1} (omega arith)

given_next : (order : List Section) (i bits k : ℕ) (left : List ℕ) → i < length order → (bits % 2 == 1) ≡ true →
    sections_at (drop i order) bits k left ≡
    decoded_then (section_at k left) (λ x. after_sections ((get_or order i Main, x.0) ∷ []) (sections_at (drop (i + 1) order) (bits / 2) x.1.0 x.1.1))
given_next order i bits k left h b =
    ap (λ o. sections_at o bits k left) (order_next order i h) ∙ section_given (bits % 2 == 1) (get_or order i Main) (drop (i + 1) order) bits k left b

pub sections_turn : (made pushed : Sections) (order : List Section) (i bits k m : ℕ) (left rest : List ℕ) (body : Statements) (all : Decoded Sections) →
    i < length order → (bits % 2 == 1) ≡ true → after_sections made (sections_at (drop i order) bits k left) ≡ all → section_at k left ≡ Ok (body, (m, rest)) →
    pushed ≡ made ++ (get_or order i Main, body) ∷ [] → after_sections pushed (sections_at (drop (i + 1) order) (bits / 2) m rest) ≡ all
sections_turn made pushed order i bits k m left rest body all h b inv e p =
    let next = sections_at (drop (i + 1) order) (bits / 2) m rest in
    ap (λ l. after_sections l next) p
    ∙ (after_sections_twice made ((get_or order i Main, body) ∷ []) next
    ∙ (ap (after_sections made) (sym (given_next order i bits k left h b ∙
    ap (λ x. decoded_then x (λ x. after_sections ((get_or order i Main, x.0) ∷ []) (sections_at (drop (i + 1) order) (bits / 2) x.1.0 x.1.1))) e)) ∙ inv))

pub sections_skip : (made : Sections) (order : List Section) (i bits k : ℕ) (left : List ℕ) (all : Decoded Sections) → i < length order →
    (bits % 2 == 1) ≡ false → after_sections made (sections_at (drop i order) bits k left) ≡ all →
    after_sections made (sections_at (drop (i + 1) order) (bits / 2) k left) ≡ all
sections_skip made order i bits k left all h b inv =
    ap (after_sections made)
    (sym (ap (λ o. sections_at o bits k left) (order_next order i h) ∙
    section_absent (bits % 2 == 1) (get_or order i Main) (drop (i + 1) order) bits k left b)) ∙ inv

pub sections_stop : (error : DecodeError) (made : Sections) (order : List Section) (i bits k : ℕ) (left : List ℕ) (all : Decoded Sections) → i < length order →
    (bits % 2 == 1) ≡ true → after_sections made (sections_at (drop i order) bits k left) ≡ all → Fails error (section_at k left) → Fails error all
sections_stop (Memory error) made order i bits k left all h b inv e = tt
sections_stop (Fault fault) made order i bits k left all h b inv e =
    sym inv
    ∙ ap (after_sections made)
    (given_next order i bits k left h b ∙
    ap (λ x. decoded_then x (λ x. after_sections ((get_or order i Main, x.0) ∷ []) (sections_at (drop (i + 1) order) (bits / 2) x.1.0 x.1.1))) e)

-- WHOLE PROGRAMS

abbrev pub program : List ℕ → Sections → Program
program limits sections = record { sections = sections; locals = limits }

-- what stands before the sections is read
pub decoded_sections : (bytes first second third limits : List ℕ) (bits present : ℕ) → number_at 1 Truncated bytes ≡ Ok (bits, first) →
    limits_at 8 bits first ≡ Ok (limits, second) → number_at 2 Truncated second ≡ Ok (present, third) →
    decoded bytes ≡ decoded_then (sections_at all_sections present 0 third) (λ sections. Ok (program limits sections))
decoded_sections bytes first second third limits bits present a b c = then_along _ a ∙ (then_along _ b ∙ then_along _ c)

pub decoded_ok : (bytes first second third limits : List ℕ) (bits present : ℕ) (sections : Sections) → number_at 1 Truncated bytes ≡ Ok (bits, first) →
    limits_at 8 bits first ≡ Ok (limits, second) → number_at 2 Truncated second ≡ Ok (present, third) →
    sections_at all_sections present 0 third ≡ Ok sections → decoded bytes ≡ Ok (program limits sections)
decoded_ok bytes first second third limits bits present sections a b c e =
    decoded_sections bytes first second third limits bits present a b c ∙ then_along _ e

pub decoded_err : (bytes first second third limits : List ℕ) (bits present : ℕ) (error : DecodeError) → number_at 1 Truncated bytes ≡ Ok (bits, first) →
    limits_at 8 bits first ≡ Ok (limits, second) → number_at 2 Truncated second ≡ Ok (present, third) →
    Fails error (sections_at all_sections present 0 third) → IsDecoded (Err error) (decoded bytes)
decoded_err bytes first second third limits bits present (Memory error) a b c e = tt
decoded_err bytes first second third limits bits present (Fault fault) a b c e =
    decoded_sections bytes first second third limits bits present a b c ∙ then_along _ e
