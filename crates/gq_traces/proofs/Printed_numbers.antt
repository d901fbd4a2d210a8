-- What is printed has no line feed in it.
use Rattle.std.proofs.Common.{◌≡◌, ◌==◌, ℕ, zero, suc, ◌<◌, Bool, true, false, List, [], ◌∷◌, ◌++◌, refl, arith}
use Rattle.std.specs.Prelude.{◌/◌, ◌%◌, if◌then◌else◌, decimal}
use Rattle.std.specs.Fmt.{digit_glyph, digits, digits_onto}
use Rattle.std.proofs.lemmas.Bool.{and_from}
use Rattle.std.proofs.lemmas.Bool.Decides.{nat_tests}
use Rattle.gq_model.specs.machine.Lists.{all_of}
use Rattle.gq_views.proofs.Listed_numbers.{all_append}
use Rattle.gq_views.proofs.Listed_lines.{is_printed}

-- a text of bytes that are printed
abbrev pub IsPrinted : List ℕ → Type 0
IsPrinted text = all_of is_printed text ≡ true

pub both : (a b : List ℕ) → IsPrinted a → IsPrinted b → IsPrinted (a ++ b)
both a b = all_append is_printed a b

glyph_printed : (d : ℕ) → d < 10 → is_printed (digit_glyph false d) ≡ true
glyph_printed d small = grind (arith, nat_tests)

either : (b : Bool) (text other : List ℕ) → IsPrinted text → IsPrinted other → IsPrinted (if b then text else other)
either true text other h g = h
either false text other h g = g

onto_printed : (k n : ℕ) (acc : List ℕ) → IsPrinted acc → IsPrinted (digits_onto k 10 false n acc)
onto_printed zero n acc h = h
onto_printed (suc k) n acc h =
    let small : n % 10 < 10 = omega arith in
    let glyph = digit_glyph false (n % 10) in
    let more = and_from (is_printed glyph) (all_of is_printed acc) (glyph_printed (n % 10) small) h in
    either (n / 10 == 0) (glyph ∷ acc) (digits_onto k 10 false (n / 10) (glyph ∷ acc)) more (onto_printed k (n / 10) (glyph ∷ acc) more)

-- the digits of any number
pub number_printed : (n : ℕ) → IsPrinted (decimal n)
unfolding digits
number_printed n = onto_printed 64 n [] refl
