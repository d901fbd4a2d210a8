-- A line of a name, a blank and digits, put together.
use Rattle.std.proofs.Common.{◌≡◌, ◌∙◌, ◌≤◌, ℕ, List, [], ◌∷◌, ◌++◌, length, ap, arith, true, length-append, append_assoc}
use Rattle.std.specs.Prelude.{decimal, nat_le}
use Rattle.std.proofs.lemmas.Bool.{and_parts, leb-true}
use Rattle.std.proofs.lemmas.Fmt.{length-decimal-le}
use Rattle.gq_model.specs.machine.Lists.{all_of, between}
use Rattle.gq_model.specs.texts.Letters.{is_name, is_name_byte}
use Rattle.gq_model.specs.machine.Rest.{greatest_turns}

pub short_name : (name : List ℕ) → is_name name ≡ true → length name ≤ 16
short_name name good =
    let u = and_parts (between 1 16 (length name)) (all_of is_name_byte name) good in
    let v = and_parts (nat_le 1 (length name)) (nat_le (length name) 16) u.0 in leb-true (length name) 16 v.1

pub short_count : (n : ℕ) → n ≤ greatest_turns → length (decimal n) ≤ 7
short_count n few = length-decimal-le 7 n (omega arith) (omega (arith, few)) (omega (arith, few))

module _ (name none one two : List ℕ) (begun : none ≡ []) (named : one ≡ none ++ name) (parted : two ≡ one ++ 32 ∷ []) where
  pub two_is : two ≡ name ++ 32 ∷ []
  two_is = parted ∙ ap (λ (l : List ℕ). l ++ 32 ∷ []) (named ∙ ap (λ (l : List ℕ). l ++ name) begun)

  pub two_short : length name ≤ 16 → length two ≤ 17
  two_short short = let long = ap length two_is ∙ length-append name (32 ∷ []) in omega (arith, long, short)

  module _ (digits three : List ℕ) (counted : three ≡ two ++ digits) where
    pub three_short : length name ≤ 16 → length digits ≤ 7 → length three ≤ 24
    three_short short few =
        let long = ap length counted ∙ length-append two digits in
        let prefix = two_short short in
        omega (arith, long, prefix, few)

    pub line_is : (four : List ℕ) → four ≡ three ++ 10 ∷ [] → four ≡ (name ++ 32 ∷ digits) ++ 10 ∷ []
    line_is four ended =
        ended ∙ ap (λ (l : List ℕ). l ++ 10 ∷ []) (counted ∙ (ap (λ (l : List ℕ). l ++ digits) two_is ∙ append_assoc name (32 ∷ []) digits))
