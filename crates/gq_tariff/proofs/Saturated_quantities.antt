-- What is past the greatest quantity stays past it, so a number may be saturated there.
use Rattle.std.proofs.Common.{◌≡◌, ℕ, ◌+◌, ◌-◌, ◌*◌, ◌^◌, ◌<◌, ◌==◌, min, Bool, true, false, if◌then◌else◌, List, [], ◌∷◌, Result, Ok, refl, sym, ap, ◌∙◌, inl}
use Rattle.std.proofs.Common.{inr, length, get_or, drop, arith}
use Rattle.std.proofs.lemmas.Bool.{cases_lt}
use Rattle.std.proofs.lemmas.List.{at_drop_more}
use Rattle.std.proofs.lemmas.Bool.Decides.{nat_tests}
use Rattle.gq_tariff.specs.declared.quantity.QuantityFault.{QuantityFault}
use Rattle.gq_tariff.specs.Byte_tests.{is_digit}
use Rattle.gq_tariff.specs.Quantities.{scaled, quantity_on, at_most_40_bits}

if-at_most : (b : Bool) (x y u v : Result ℕ QuantityFault) → at_most_40_bits x ≡ at_most_40_bits u → at_most_40_bits y ≡ at_most_40_bits v
    → at_most_40_bits (if b then x else y) ≡ at_most_40_bits (if b then u else v)
if-at_most true x y u v xu yv = xu
if-at_most false x y u v xu yv = yv

-- two numbers past the greatest quantity
abbrev AreLarge : ℕ → ℕ → Type 0
AreLarge m n = (2 ^ 40 < m) × (2 ^ 40 < n)

at_most-large : (m n : ℕ) → AreLarge m n → at_most_40_bits (Ok m) ≡ at_most_40_bits (Ok n)
at_most-large m n large = grind (arith, nat_tests)

scaled-large : (c m n : ℕ) → AreLarge m n → at_most_40_bits (scaled c m) ≡ at_most_40_bits (scaled c n)
scaled-large c m n large =
    if-at_most (c == 75) _ _ _ _ (at_most-large (m * 2 ^ 10) (n * 2 ^ 10) (omega arith, omega arith))
    (if-at_most (c == 77) _ _ _ _ (at_most-large (m * 2 ^ 20) (n * 2 ^ 20) (omega arith, omega arith))
    (if-at_most (c == 71) _ _ _ _ (at_most-large (m * 2 ^ 30) (n * 2 ^ 30) (omega arith, omega arith)) refl))

-- what comes after them is read alike
quantity_on-large : (rest : List ℕ) (m n : ℕ) → AreLarge m n → at_most_40_bits (quantity_on m rest) ≡ at_most_40_bits (quantity_on n rest)
quantity_on-large [] m n large = at_most-large m n large
quantity_on-large (c ∷ []) m n large =
    if-at_most (is_digit c) _ _ _ _ (at_most-large (10 * m + (c - 48)) (10 * n + (c - 48)) (omega arith, omega arith))
    (scaled-large c m n large)
quantity_on-large (c ∷ d ∷ rest) m n large =
    if-at_most (is_digit c) _ _ _ _ (quantity_on-large (d ∷ rest) (10 * m + (c - 48)) (10 * n + (c - 48)) (omega arith, omega arith))
    refl

-- so a number may be saturated at any number past the greatest quantity
quantity_on-min : (rest : List ℕ) (n bound : ℕ) → 2 ^ 40 < bound → at_most_40_bits (quantity_on (min n bound) rest) ≡ at_most_40_bits (quantity_on n rest)
quantity_on-min rest n bound past =
    elim (cases_lt n bound) [
      | inl below ↦ let same : min n bound ≡ n = omega arith in rw same refl
      | inr above ↦ let same : min n bound ≡ bound = omega arith in rw same (quantity_on-large rest bound n (past, omega arith))
    ]

quantity_on-digit : (c : ℕ) (rest : List ℕ) (n : ℕ) → is_digit c ≡ true → quantity_on n (c ∷ rest) ≡ quantity_on (10 * n + (c - 48)) rest
quantity_on-digit c rest n digit = rw digit refl

-- the next digit of a text, read into a number that saturates
pub quantity_on-step : (text : List ℕ) (i n saturated : ℕ) → i < length text → is_digit (get_or text i 0) ≡ true
    → saturated ≡ min (min (n * 10) (2 ^ 64 - 1) + (get_or text i 0 - 48)) (2 ^ 64 - 1)
    → at_most_40_bits (quantity_on saturated (drop (i + 1) text)) ≡ at_most_40_bits (quantity_on n (drop i text))
quantity_on-step text i n saturated inside digit is =
    let c = get_or text i 0 in
    let rest = drop (i + 1) text in
    let once : saturated ≡ min (10 * n + (c - 48)) (2 ^ 64 - 1) = omega arith in
    let read = ap at_most_40_bits (quantity_on-digit c rest n digit) in
    let prefix = at_drop_more (λ s. at_most_40_bits (quantity_on n s)) text i 0 inside in
    rw once (quantity_on-min rest (10 * n + (c - 48)) (2 ^ 64 - 1) (omega arith) ∙ sym read ∙ sym prefix)
