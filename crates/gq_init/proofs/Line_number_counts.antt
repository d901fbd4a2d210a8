-- The numbers on a line.
use Rattle.std.proofs.Common.{◌≡◌, ◌==◌, ℕ, ◌^◌, ◌<◌, ◌≤◌, ◌≢◌, Bool, true, false, ◌&&◌, cond, List, [], ◌∷◌, length, get_or, Some, None, subst}
use Rattle.std.proofs.Common.{◌⊎◌, inl, inr, refl, ap, sym, ◌∙◌, arith}
use Rattle.std.proofs.lemmas.Bool.Decides.{nat_tests}
use Rattle.std.proofs.Math.Nat.{pow-le-pow_right}
use Rattle.gq_model.specs.machine.Lists.{all_of, between}
use Rattle.std.proofs.lemmas.Bool.{cases_Bool}
use Rattle.gq_model.specs.texts.Letters.{pieces, is_digit, is_short, number_in, spelled_on}
use Rattle.gq_model.specs.texts.Turns.{turn_count}

-- all that a number of turns has to be
abbrev pub is_count : List ℕ → Bool
is_count text = between 1 7 (length text) && all_of is_digit text && between 1 9999999 (spelled_on 0 text)

pub turn_count-empty : turn_count [] ≡ None
turn_count-empty = refl

none_either : {A : Type 0} (a b : Bool) (x : A) → b ≡ false → cond a (cond b (Some x) None) None ≡ None
none_either true b x e = rw e
none_either false b x e = refl

pub turn_count-none : (text : List ℕ) → is_count text ≡ false → turn_count text ≡ None
turn_count-none text e = none_either (is_short text) (is_count text) (spelled_on 0 text) e

pub turn_count-long : (text : List ℕ) → 7 < length text → turn_count text ≡ None
turn_count-long text h = turn_count-none text (grind (arith, nat_tests))

pub turn_count-zero : (text : List ℕ) → 0 < length text → get_or text 0 0 ≡ 48 → turn_count text ≡ None
turn_count-zero [] h e = absurd (omega arith)
turn_count-zero (c ∷ []) h e = turn_count-none (c ∷ []) (rw e refl)
turn_count-zero (c ∷ d ∷ rest) h e = rw e refl

pub turn_count-other : (text : List ℕ) → all_of is_digit text ≡ false → turn_count text ≡ None
turn_count-other text e = turn_count-none text (rw e (grind (arith, nat_tests)))

short_from_first : (text : List ℕ) → 0 < length text → get_or text 0 0 ≢ 48 → is_short text ≡ true
short_from_first [] h e = absurd (omega arith)
short_from_first (c ∷ []) h e = refl
short_from_first (c ∷ d ∷ rest) h e = grind (arith, nat_tests)

some_both : {A : Type 0} (a b : Bool) (x : A) → a ≡ true → b ≡ true → cond a (cond b (Some x) None) None ≡ Some x
some_both a b x p q = rw (p, q)

and_false : (a : Bool) → (a && false) ≡ false
and_false true = refl
and_false false = refl

-- a power of ten is at most a greater one
pub power_below : (i k : ℕ) → i ≤ k → 10 ^ i ≤ 10 ^ k
power_below i k h = pow-le-pow_right {n = 10} (omega arith) h

pub turn_count-some : (text : List ℕ) (n : ℕ) → 0 < length text → length text ≤ 7 → get_or text 0 0 ≢ 48 → all_of is_digit text ≡ true → spelled_on 0 text ≡ n
    → 1 ≤ n → n < 10 ^ length text
    → turn_count text ≡ Some n
turn_count-some text n some few first digits spelled low high =
    let fits : n ≤ 9999999 = omega (arith, high, power_below (length text) 7 few) in
    let is : is_count text ≡ true = rw (digits, spelled) (grind (arith, nat_tests)) in
    some_both (is_short text) (is_count text) (spelled_on 0 text) (short_from_first text some first) is ∙ ap Some spelled

-- PIECES

-- no number has a byte that is no digit
pub number_in-other : (k low high : ℕ) (text : List ℕ) → all_of is_digit text ≡ false → number_in k low high text ≡ None
number_in-other k low high text e = rw e (grind (arith, nat_tests))

-- two pieces at least, between bytes that are no digits
pub record Split (s : ℕ) (text : List ℕ) : Type 0 where
  pub first : List ℕ
  pub second : List ℕ
  pub rest : List (List ℕ)
  pub is : pieces (λ c. c == s) text ≡ first ∷ second ∷ rest
  pub other : all_of is_digit text ≡ false

record Piece (s : ℕ) (text : List ℕ) : Type 0 where
  first : List ℕ
  rest : List (List ℕ)
  is : pieces (λ c. c == s) text ≡ first ∷ rest

some_piece_onto : (s c : ℕ) (b : Bool) (text first : List ℕ) (rest : List (List ℕ)) → pieces (λ c. c == s) text ≡ first ∷ rest → (c == s) ≡ b
    → Piece s (c ∷ text)
some_piece_onto s c true text first rest e t = record { first = []; rest = first ∷ rest; is = rw (t, e) }
some_piece_onto s c false text first rest e t = record { first = c ∷ first; rest = rest; is = rw (t, e) }

some_piece : (s : ℕ) (text : List ℕ) → Piece s text
some_piece s [] = record { first = []; rest = []; is = refl }
some_piece s (c ∷ text) = let p = some_piece s text in some_piece_onto s c (c == s) text p.first p.rest p.is refl

no_digit_at : (s c : ℕ) → is_digit s ≡ false → (c == s) ≡ true → is_digit c ≡ false
no_digit_at s c other e = let same : c ≡ s = grind (arith, nat_tests, e) in subst (λ d. is_digit d ≡ false) (sym same) other

pub one_or_more : (s : ℕ) (text : List ℕ) → is_digit s ≡ false → (pieces (λ c. c == s) text ≡ text ∷ []) ⊎ Split s text
one_or_more s [] other = inl refl
one_or_more s (c ∷ text) other =
    let p = some_piece s text in
    elim (cases_Bool (c == s)) [
      | inl same ↦ inr (record { first = []; second = p.first; rest = p.rest; is = rw (same, p.is); other = rw (no_digit_at s c other same) })
      | inr apart ↦
          elim (one_or_more s text other) [
            | inl e ↦ inl (rw (apart, e))
            | inr t ↦ inr (record { first = c ∷ t.first; second = t.second; rest = t.rest; is = rw (apart, t.is); other = rw t.other (and_false (is_digit c)) })
          ]
    ]
