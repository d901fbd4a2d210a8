-- Bytes in hexadecimal digits.
use Rattle.std.proofs.Common.{◌≡◌, ℕ, zero, suc, ◌/◌, ◌%◌, ◌<◌, ◌==◌, ◌&&◌, Bool, true, inl, inr, List, [], ◌∷◌, ◌++◌, get_or, Fits, w8, refl, ap, ◌∙◌, arith}
use Rattle.std.specs.Prelude.{slice_index}
use Rattle.std.proofs.lemmas.Bool.{and_parts, cases_lt, eqb-true}
use Rattle.std.proofs.Math.Facts.{Fits-lt-pow}
use Rattle.hex.specs.Hex.{lower_digits, encode_with, encode_lower}
use Rattle.gq_model.specs.texts.Code.{hex_digit, hex_of}

-- the digits of the library, tested one by one
abbrev are_digits : ℕ → Bool
are_digits zero = true
are_digits (suc n) = slice_index lower_digits n == hex_digit n && are_digits n

digit_at : (n k : ℕ) → are_digits n ≡ true → k < n → slice_index lower_digits k ≡ hex_digit k
digit_at zero k h less = absurd (omega (arith, less))
digit_at (suc n) k h less =
    let parts = and_parts (slice_index lower_digits n == hex_digit n) (are_digits n) h in
    elim (cases_lt k n) [
      | inl below ↦ digit_at n k parts.1 below
      | inr top ↦
          let e : k ≡ n = omega (arith, less, top) in
          rw e (eqb-true (slice_index lower_digits n) (hex_digit n) parts.0)
    ]

digit : (k : ℕ) → k < 16 → slice_index lower_digits k ≡ hex_digit k
digit k less = digit_at 16 k refl less

-- each is a byte
abbrev pub AreBytes : List ℕ → Type 0
AreBytes bytes = (i : ℕ) → Fits w8 (get_or bytes i 0)

below_256 : (b : ℕ) → Fits w8 b → b < 256
below_256 b h = Fits-lt-pow h

pub hex_same : (bytes : List ℕ) → AreBytes bytes → encode_lower bytes ≡ hex_of bytes
unfolding encode_with
hex_same [] h = refl
hex_same (b ∷ rest) h =
    let less = below_256 b (h 0) in
    rw (digit (b / 16) (omega (arith, less)), digit (b % 16) (omega arith), hex_same rest (λ i. h (suc i))) refl

pub code_text : (line text code : List ℕ) → AreBytes code → line ≡ text ++ 10 ∷ [] → text ≡ encode_lower code → line ≡ hex_of code ++ 10 ∷ []
code_text line text code h e f = e ∙ ap (λ l. l ++ 10 ∷ []) (f ∙ hex_same code h)
