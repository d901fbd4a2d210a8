-- A word that is read as a number, by the parser's test and by the reading of its digits.
use Rattle.std.proofs.Common.{◌≡◌, ◌∙◌, ◌<◌, ◌≤◌, ◌^◌, ℕ, Bool, true, false, cond, List, Some, None, Option, ap, refl, sym, subst, arith}
use Rattle.std.specs.Str.Parse.{IsNumeral, digits_value, without_leading_plus}
use Rattle.clap.specs.ValueTests.{is_unsigned_in}
use Rattle.clap.specs.declared.builder.value_parser.ValueParser.TheVariants as parser
use Rattle.clap.proofs.ValueTestLemmas.{accepts-Accepts, Accepts-accepts}
use Rattle.gq_command.specs.CommandLine.{number_of}

abbrev Reads : List ℕ → Type 0
Reads text = IsNumeral 10 (without_leading_plus text) × (digits_value 10 (without_leading_plus text) < 2 ^ 32)

pub number_read : (text : List ℕ) (n : ℕ) → Reads text → n ≡ digits_value 10 (without_leading_plus text) → Some n ≡ number_of text
number_read text n h e =
    let v = digits_value 10 (without_leading_plus text) in
    let below = h.1 in
    let passes : is_unsigned_in 0 4294967295 text ≡ true =
    Accepts-accepts false (parser.Unsigned 0 4294967295) text (h.0, omega (arith, below), omega arith, omega (arith, below)) in
    ap Some e ∙ sym (ap (λ b. cond b (Some v) None) passes)

pub number_not_read : (text : List ℕ) → ¬ (Reads text) → None ≡ number_of text
number_not_read text h = by (is_unsigned_in 0 4294967295 text) refl
  where
    by : (b : Bool) → is_unsigned_in 0 4294967295 text ≡ b → None ≡ cond b (Some (digits_value 10 (without_leading_plus text))) None
    by true e =
        let a = accepts-Accepts false (parser.Unsigned 0 4294967295) text e in
        let most = a.3 in
        absurd (h (a.0, omega (arith, most)))
    by false e = refl
