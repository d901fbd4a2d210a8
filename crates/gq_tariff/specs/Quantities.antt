-- Quantities: digits, then perhaps one of K, M and G.
use Rattle.std.specs.Prelude.{ℕ, ◌+◌, ◌-◌, ◌*◌, ◌^◌, nat_le, ◌==◌, ◌≡◌, false, if◌then◌else◌, List, [], ◌∷◌, Result, Ok, Err}
use Rattle.gq_tariff.specs.Byte_tests.{is_digit}
use Rattle.gq_tariff.specs.declared.quantity.QuantityFault.{QuantityFault}
use Rattle.gq_tariff.specs.declared.quantity.QuantityFault.TheVariants.{Empty, BadCharacter, TooLarge}

-- a suffix stands for a power of 1024
abbrev pub scaled : ℕ → ℕ → Result ℕ QuantityFault
scaled c n =
    if c == 75 then Ok (n * 2 ^ 10) else (if c == 77 then Ok (n * 2 ^ 20) else (if c == 71 then Ok (n * 2 ^ 30) else Err BadCharacter))

-- only the last byte can be a suffix
abbrev pub scaled_last : ℕ → ℕ → List ℕ → Result ℕ QuantityFault
scaled_last c n [] = scaled c n
scaled_last c n (d ∷ rest) = Err BadCharacter

-- digits and a suffix, after the number n
abbrev pub quantity_on : ℕ → List ℕ → Result ℕ QuantityFault
quantity_on n [] = Ok n
quantity_on n (c ∷ rest) = if is_digit c then quantity_on (10 * n + (c - 48)) rest else scaled_last c n rest

-- what comes after all of the digits
abbrev pub StartsWithNoDigit : List ℕ → Type 0
StartsWithNoDigit [] = Unit {0}
StartsWithNoDigit (c ∷ rest) = is_digit c ≡ false

-- the greatest quantity
abbrev pub greatest_quantity : ℕ
greatest_quantity = 2 ^ 40

abbrev pub at_most_40_bits : Result ℕ QuantityFault → Result ℕ QuantityFault
at_most_40_bits (Ok n) = if nat_le n greatest_quantity then Ok n else Err TooLarge
at_most_40_bits (Err fault) = Err fault

-- a suffix alone is no quantity
abbrev pub quantity_of : List ℕ → Result ℕ QuantityFault
quantity_of [] = Err Empty
quantity_of (c ∷ rest) = if is_digit c then at_most_40_bits (quantity_on 0 (c ∷ rest)) else Err BadCharacter
