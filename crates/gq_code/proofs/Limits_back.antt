-- The code of limits is read back as these limits.
use Rattle.std.proofs.Common.{◌≡◌, ℕ, suc, ◌+◌, ◌*◌, ◌/◌, ◌%◌, ◌^◌, ◌<◌, ◌≤◌, List, [], ◌∷◌, ◌++◌, length, Bool, true, false, ◌==◌, if◌then◌else◌, Ok}
use Rattle.std.proofs.Common.{refl, ap, ◌∙◌, arith}
use Rattle.std.specs.Prelude.{nat_lt, nat_le}
use Rattle.std.proofs.lemmas.Bool.{and_parts, leb-true, ltb-true, ltb-false, eq-eqb, ne_eqb, cond_both}
use Rattle.std.proofs.Math.Nat.{pow-succ'}
use Rattle.gq_model.specs.declared.fault.CodeFault.TheVariants.{Truncated, BadOperand}
use Rattle.gq_model.specs.machine.Program.{spelled}
use Rattle.gq_model.specs.machine.Lists.{all_of, between}
use Rattle.gq_model.specs.texts.Operands.{greatest_number}
use Rattle.gq_model.specs.texts.Code.{has_limit, local_bits, limits_code}
use Rattle.gq_model.specs.texts.Decode.{decoded_then, number_at, checked, limits_at}
use Rattle.gq_model.proofs.Code_laws.{number_at-spelled_4, checked_true}
use Rattle.gq_code.specs.internal.Decoding.{limit_at, after_limits}
use Rattle.gq_code.proofs.Coded_body_decoding.{then_along}
use Rattle.gq_code.proofs.Coded_section_limits.{limits_step}

-- a bit for each
pub local_bits_below : (locals : List ℕ) → local_bits locals < 2 ^ length locals
local_bits_below [] = omega arith
local_bits_below (n ∷ rest) =
    let after = local_bits_below rest in
    let twice = pow-succ' 2 (length rest) in
    cond_both (has_limit n) 1 0 (λ b. b + 2 * local_bits rest < 2 ^ suc (length rest)) (λ _. omega (arith, after, twice)) (λ _. omega (arith, after, twice))

-- what is read where the lowest bit is set, or is not
next_given : (n bits limit : ℕ) (bytes rest last others : List ℕ) → (bits % 2 == 1) ≡ true → limit_at true bytes ≡ Ok (limit, rest) →
    limits_at n (bits / 2) rest ≡ Ok (others, last) → limits_at (suc n) bits bytes ≡ Ok (limit ∷ others, last)
next_given n bits limit bytes rest last others odd e f =
    limits_step n bits bytes
    ∙ (ap (λ b. decoded_then (limit_at b bytes) (λ p. after_limits (p.0 ∷ []) (limits_at n (bits / 2) p.1))) odd
    ∙ (then_along _ e ∙ ap (after_limits (limit ∷ [])) f))

next_absent : (n bits : ℕ) (bytes last others : List ℕ) → (bits % 2 == 1) ≡ false → limits_at n (bits / 2) bytes ≡ Ok (others, last) →
    limits_at (suc n) bits bytes ≡ Ok (greatest_number ∷ others, last)
next_absent n bits bytes last others even f =
    limits_step n bits bytes
    ∙ (ap (λ b. decoded_then (limit_at b bytes) (λ p. after_limits (p.0 ∷ []) (limits_at n (bits / 2) p.1))) even ∙ ap (after_limits (greatest_number ∷ [])) f)

limit_back : (n : ℕ) (rest : List ℕ) → nat_lt n greatest_number ≡ true → limit_at true (spelled 4 n ++ rest) ≡ Ok (n, rest)
limit_back n rest less =
    let small = ltb-true n greatest_number less in
    limit_is n (spelled 4 n ++
    rest) rest (number_at-spelled_4 Truncated n rest (omega (arith, small))) (checked_true {A = ℕ ×
    List ℕ} (nat_lt n greatest_number) BadOperand (n, rest) less)
  where
    limit_is : (n : ℕ) (bytes rest : List ℕ) → number_at 4 Truncated bytes ≡ Ok (n, rest) →
        checked {A = ℕ × List ℕ} (nat_lt n greatest_number) BadOperand (n, rest) ≡ Ok (n, rest) → limit_at true bytes ≡ Ok (n, rest)
    limit_is n bytes rest e f = then_along _ e ∙ f

odd : (b h : ℕ) → b ≡ 1 → ((b + 2 * h) % 2 ≡ 1) × ((b + 2 * h) / 2 ≡ h)
odd b h e = (omega (arith, e), omega (arith, e))

even : (b h : ℕ) → b ≡ 0 → ((b + 2 * h) % 2 ≡ 0) × ((b + 2 * h) / 2 ≡ h)
even b h e = (omega (arith, e), omega (arith, e))

-- limits before other bytes
pub limits_back : (locals rest : List ℕ) → all_of (between 0 greatest_number) locals ≡ true →
    limits_at (length locals) (local_bits locals) (limits_code locals ++ rest) ≡ Ok (locals, rest)
limits_back [] rest h = refl
limits_back (n ∷ locals) rest h =
    let p = and_parts (between 0 greatest_number n) (all_of (between 0 greatest_number) locals) h in
    let most = leb-true n greatest_number ((and_parts (nat_le 0 n) (nat_le n greatest_number) p.0).1) in
    let half = local_bits locals in
    let more = limits_code locals in
    let count = length locals in
    let after = limits_back locals rest p.1 in
    by_limit n (nat_lt n greatest_number) half more rest count locals refl most after
  where
    by_limit : (n : ℕ) (given : Bool) (half : ℕ) (more rest : List ℕ) (count : ℕ) (locals : List ℕ) → nat_lt n greatest_number ≡ given → n ≤ greatest_number →
        limits_at count half (more ++ rest) ≡ Ok (locals, rest) →
        limits_at (suc count) ((if given then 1 else 0) + 2 * half) (((if given then spelled 4 n else []) ++ more) ++ rest) ≡ Ok (n ∷ locals, rest)
    by_limit n true half more rest count locals less most after =
        let bits = odd 1 half refl in
        next_given count (1 + 2 * half) n (spelled 4 n ++ (more ++ rest)) (more ++
        rest) rest locals (eq-eqb ((1 + 2 * half) % 2) 1 bits.0) (limit_back n (more ++ rest) less) (ap (λ b. limits_at count b (more ++ rest)) bits.1 ∙
        after)
    by_limit n false half more rest count locals less most after =
        let bits = even 0 half refl in
        let high = ltb-false n greatest_number less in
        next_absent count (0 + 2 * half) (more ++
        rest) rest locals (ne_eqb ((0 + 2 * half) % 2) 1 (λ e. omega (arith, e, bits.0))) (ap (λ b. limits_at count b (more ++ rest)) bits.1 ∙ after)
        ∙ ap (λ m. Ok (m ∷ locals, rest)) {x = greatest_number} {y = n} (omega (arith, high, most))
