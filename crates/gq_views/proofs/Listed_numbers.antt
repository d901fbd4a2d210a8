-- Numbers are read back as they are reported.
use Rattle.std.proofs.Common.{◌≡◌, ◌∙◌, ℕ, ◌+◌, ◌-◌, ◌*◌, ◌%◌, ◌^◌, ◌<◌, Bool, true, false, List, [], ◌∷◌, ◌++◌, length, get_or, Some, None}
use Rattle.std.proofs.Common.{refl, ap, arith, length-append}
use Rattle.std.proofs.Math.ListN.{get_or-append}
use Rattle.std.specs.Prelude.{◌&&◌, not, nat_le, ◌==◌, if◌then◌else◌, decimal}
use Rattle.std.proofs.lemmas.Bool.{and_from, le-leb}
use Rattle.std.proofs.lemmas.Bool.Decides.{nat_tests}
use Rattle.std.proofs.lemmas.Fmt.{decimal_by_steps, length-decimal-le, decimal_nonempty}
use Rattle.gq_model.specs.machine.Lists.{all_of, between}
use Rattle.gq_model.specs.texts.Letters.{is_digit, is_short, number_in, spelled_on}

spelled_last : (n c : ℕ) (ds : List ℕ) → spelled_on n (ds ++ c ∷ []) ≡ 10 * spelled_on n ds + (c - 48)
spelled_last n c [] = refl
spelled_last n c (d ∷ ds) = spelled_last (10 * n + (d - 48)) c ds

and_step : (a b c : Bool) → a && b ≡ true → (b ≡ true → c ≡ true) → a && c ≡ true
and_step true b c e go = go e
and_step false b c e go = e

pub all_append : {A : Type 0} (test : A → Bool) (xs ys : List A) → all_of test xs ≡ true → all_of test ys ≡ true → all_of test (xs ++ ys) ≡ true
all_append test [] ys h g = g
all_append test (x ∷ xs) ys h g = and_step (test x) (all_of test xs) (all_of test (xs ++ ys)) h (λ k. all_append test xs ys k g)

digit_is : (d : ℕ) → d < 10 → is_digit (48 + d) ≡ true
digit_is d less = and_from (nat_le 48 (48 + d)) (nat_le (48 + d) 57) (le-leb 48 (48 + d) (omega arith)) (le-leb (48 + d) 57 (omega arith))

pub record IsReported (n : ℕ) (ds : List ℕ) : Type 0 where
  pub digits : all_of is_digit ds ≡ true
  pub value : spelled_on 0 ds ≡ n

pub decimal_is_printed : (n : ℕ) → n < 2 ^ 64 → IsReported n (decimal n)
decimal_is_printed =
    decimal_by_steps IsReported (λ m less. record { digits = and_from (is_digit (48 + m)) true (digit_is m less) refl; value = omega arith })
    (λ m ds l h. record {
      digits = all_append is_digit ds ((48 + m % 10) ∷ []) h.digits (and_from (is_digit (48 + m % 10)) true (digit_is (m % 10) (omega arith)) refl);
      value = omega (arith, spelled_last 0 (48 + m % 10) ds, h.value);
    })

-- a number of at most k digits in a range
pub number_read : (k low high n : ℕ) → 0 < k → n < 10 ^ k → n < 2 ^ 64 → between low high n ≡ true → number_in k low high (decimal n) ≡ Some n
number_read k low high n some fits small within =
    let t = decimal_is_printed n small in
    let value : between low high (spelled_on 0 (decimal n)) ≡ true = ap (between low high) t.value ∙ within in
    let long : between 1 k (length (decimal n)) ≡ true =
    and_from (nat_le 1 (length (decimal n))) (nat_le (length (decimal n)) k) (le-leb 1 (length (decimal n)) (decimal_nonempty n small))
    (le-leb (length (decimal n)) k (length-decimal-le k n some fits small)) in
    let test = and_from _ _ (and_from _ _ long t.digits) value in
    ap (λ (b : Bool). if b then Some (spelled_on 0 (decimal n)) else None) test ∙ ap Some t.value

pub number_of_32 : (low high n : ℕ) → n < 2 ^ 32 → between low high n ≡ true → number_in 10 low high (decimal n) ≡ Some n
number_of_32 low high n small within = number_read 10 low high n (omega arith) (omega arith) (omega arith) within

no_zero : (c : ℕ) → 48 < c → not (c == 48) ≡ true
no_zero c more = grind (arith, nat_tests)

short_last : (ds : List ℕ) (x : ℕ) → 0 < length ds → 48 < get_or ds 0 0 → is_short (ds ++ x ∷ []) ≡ true
short_last [] x some first = absurd (omega (arith, some))
short_last (c ∷ []) x some first = no_zero c first
short_last (c ∷ d ∷ ds) x some first = no_zero c first

record IsShort (n : ℕ) (ds : List ℕ) : Type 0 where
  some : 0 < length ds
  first : 0 < n → 48 < get_or ds 0 0
  short : is_short ds ≡ true

printed_short : (n : ℕ) → n < 2 ^ 64 → IsShort n (decimal n)
printed_short =
    decimal_by_steps IsShort (λ m less. record { some = omega arith; first = λ a. omega arith; short = refl })
    (λ m ds l h. record {
      some = omega (arith, length-append ds ((48 + m % 10) ∷ []));
      first = λ a. omega (arith, get_or-append ds ((48 + m % 10) ∷ []) 0 0 h.some, h.first (omega arith));
      short = short_last ds (48 + m % 10) h.some (h.first (omega arith));
    })

pub decimal_short : (n : ℕ) → n < 2 ^ 64 → is_short (decimal n) ≡ true
decimal_short n small = (printed_short n small).short
