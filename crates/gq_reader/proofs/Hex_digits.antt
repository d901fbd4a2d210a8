-- Bytes in hexadecimal digits, as the library reads them.
use Rattle.std.proofs.Common.{◌≡◌, ℕ, suc, ◌+◌, ◌*◌, ◌%◌, ◌==◌, Bool, true, false, ◌&&◌, List, [], ◌∷◌, length, Option, Some, None, is_some, Result, Ok, Err}
use Rattle.std.proofs.Common.{◌⊎◌, inl, inr, refl, sym, ap, ◌∙◌, arith}
use Rattle.std.proofs.lemmas.Bool.Decides.{nat_tests}
use Rattle.std.specs.Char.{is_ascii_hexdigit}
use Rattle.hex.specs.Hex.{hex_digit_value, digit_or_error, ◌>>=◌, decode_pairs, decode_of}
use Rattle.hex.specs.declared.error.FromHexError.{FromHexError}
use Rattle.hex.specs.declared.error.FromHexError.TheVariants.{OutOfMemory}
use Rattle.gq_model.specs.machine.Lists.{all_of}
use Rattle.gq_scenario.specs.Table_keys.{hex_value, byte_before, unhex}
use Rattle.gq_model.proofs.Small_facts.{not_both}

-- DIGITS

same_digit : (c : ℕ) → hex_digit_value c ≡ hex_value c
same_digit c = grind (arith, nat_tests)

digit_valued : (c : ℕ) → is_some (hex_value c) ≡ is_ascii_hexdigit c
digit_valued c = grind (arith, nat_tests)

-- LENGTHS

even_step : (n : ℕ) → (suc (suc n) % 2 == 0) ≡ (n % 2 == 0)
even_step n = grind (arith, nat_tests)

odd_step : (n : ℕ) → (suc (suc n) % 2 == 1) ≡ (n % 2 == 1)
odd_step n = grind (arith, nat_tests)

byte_none : (a b : Option ℕ) → byte_before a b None ≡ None
byte_none None b = refl
byte_none (Some h) None = refl
byte_none (Some h) (Some l) = refl

odd_none : (text : List ℕ) → (length text % 2 == 1) ≡ true → unhex text ≡ None
odd_none [] e = absurd cc
odd_none (c ∷ []) e = refl
odd_none (c ∷ d ∷ rest) e =
    let none = odd_none rest (sym (odd_step (length rest)) ∙ e) in ap (byte_before (hex_value c) (hex_value d)) none ∙ byte_none (hex_value c) (hex_value d)

spells_both : (a b : Option ℕ) (rest : Option (List ℕ)) → is_some (byte_before a b rest) ≡ (is_some a && is_some b && is_some rest)
spells_both None b rest = refl
spells_both (Some h) None rest = refl
spells_both (Some h) (Some l) None = refl
spells_both (Some h) (Some l) (Some bytes) = refl

order : (a b even all : Bool) → (a && b && (even && all)) ≡ (even && (a && (b && all)))
order true true true all = refl
order true true false all = refl
order true false true all = refl
order true false false all = refl
order false b true all = refl
order false b false all = refl

-- a text spells bytes where its length is even and each byte is a digit
pub spells : (text : List ℕ) → is_some (unhex text) ≡ (length text % 2 == 0 && all_of is_ascii_hexdigit text)
spells [] = refl
spells (c ∷ []) = refl
spells (c ∷ d ∷ rest) =
    spells_both (hex_value c) (hex_value d) (unhex rest)
    ∙ (rw (digit_valued c, digit_valued d, spells rest, even_step (length rest))
    (order (is_ascii_hexdigit c) (is_ascii_hexdigit d) (length rest % 2 == 0) (all_of is_ascii_hexdigit rest)))

-- THE LIBRARY

abbrev value_or_none : Result (List ℕ) FromHexError → Option (List ℕ)
value_or_none (Ok bytes) = Some bytes
value_or_none (Err e) = None

abbrev decoded_by : Option ℕ → Option ℕ → ℕ → ℕ → ℕ → Result (List ℕ) FromHexError → Result (List ℕ) FromHexError
decoded_by a b c d i rest =
    digit_or_error c i a >>= (λ h. digit_or_error d (i + 1) b >>= (λ l. Ok (h * 16 + l))) >>= (λ byte. rest >>= (λ bytes. Ok (byte ∷ bytes)))

swapped : (h l : ℕ) → h * 16 + l ≡ 16 * h + l
swapped h l = omega arith

decoded_same : (a b : Option ℕ) (c d i : ℕ) (rest : Result (List ℕ) FromHexError)
    → value_or_none (decoded_by a b c d i rest) ≡ byte_before a b (value_or_none rest)
decoded_same None b c d i rest = refl
decoded_same (Some h) None c d i rest = refl
decoded_same (Some h) (Some l) c d i (Err e) = refl
decoded_same (Some h) (Some l) c d i (Ok bytes) = ap (λ n. Some (n ∷ bytes)) (swapped h l)

pairs_same : (i : ℕ) (text : List ℕ) → value_or_none (decode_pairs i text) ≡ unhex text
unfolding decode_pairs
pairs_same i [] = refl
pairs_same i (c ∷ []) = refl
pairs_same i (c ∷ d ∷ rest) =
    decoded_same (hex_digit_value c) (hex_digit_value d) c d i (decode_pairs (i + 2) rest)
    ∙ rw (same_digit c, same_digit d, pairs_same (i + 2) rest) refl

by_length : (odd : Bool) (text : List ℕ) → (length text % 2 == 1) ≡ odd → value_or_none (decode_of text) ≡ unhex text
by_length true text e = rw e (sym (odd_none text e))
by_length false text e = rw e (pairs_same 0 text)

decoding : (text : List ℕ) → value_or_none (decode_of text) ≡ unhex text
decoding text = by_length (length text % 2 == 1) text refl

pub decoded_bytes : (text bytes : List ℕ) → decode_of text ≡ Ok bytes → unhex text ≡ Some bytes
decoded_bytes text bytes e = sym (decoding text) ∙ ap value_or_none e

pub not_decoded : (text : List ℕ) (why : FromHexError) → decode_of text ≡ Err why → is_some (unhex text) ≡ false
not_decoded text why e = ap is_some (sym (decoding text) ∙ ap value_or_none e)

is_even : (n : ℕ) → n % 2 ≡ 0 → (n % 2 == 0) ≡ true
is_even n e = grind (arith, nat_tests)

is_odd : (n : ℕ) → (n % 2 ≡ 0 → ⊥) → (n % 2 == 0) ≡ false
is_odd n e = grind (arith, nat_tests)

pub odd_spells : (text : List ℕ) → (length text % 2 ≡ 0 → ⊥) → (length text % 2 == 0) ≡ is_some (unhex text)
odd_spells text e = let odd = is_odd (length text) e in odd ∙ sym (spells text ∙ rw odd refl)

pub even_spells : (text : List ℕ) (digits : Bool) → length text % 2 ≡ 0 → digits ≡ all_of is_ascii_hexdigit text → digits ≡ is_some (unhex text)
even_spells text digits e same = same ∙ sym (spells text ∙ rw (is_even (length text) e) refl)

-- a text that spells bytes is refused for want of memory alone
pub no_other_error : (text : List ℕ) (why : FromHexError) → is_some (unhex text) ≡ true → (why ≡ OutOfMemory → ⊥) → (why ≡ OutOfMemory)
    ⊎ (decode_of text ≡ Err why) → ⊥
no_other_error text why e other (inl same) = other same
no_other_error text why e other (inr refused) = not_both (is_some (unhex text)) e (not_decoded text why refused)
