-- A text that is reported piece by piece.
use Rattle.std.proofs.Common.{◌≡◌, ◌∙◌, ◌<◌, ◌≤◌, ◌+◌, ℕ, zero, suc, Bool, List, [], ◌∷◌, ◌++◌, length, drop, Option, Some, refl, ap, sym, arith}
use Rattle.std.proofs.Common.{append_assoc, append-nil}
use Rattle.std.specs.Prelude.{slice_get}
use Rattle.gq_output.specs.declared.counted.Counted.{Counted}
use Rattle.gq_traces.specs.internal.Printed_steps.{Goes}
use Rattle.gq_traces.proofs.Sequential_text_writes.{goes_both, goes_nothing, goes_text}

module _ {W : Type 0} (contents : W → Option (List ℕ)) where
  -- a prefix was reported, and with the rest it is the whole
  pub record So_far (old new : Counted W) (was now : Bool) (rest whole : List ℕ) : Type 0 where
    pub text : List ℕ
    pub goes : Goes contents old new was now text
    pub all : text ++ rest ≡ whole

  pub printed_first : (out : Counted W) (was : Bool) (whole : List ℕ) → So_far out out was was whole whole
  printed_first out was whole = record { text = []; goes = goes_nothing contents out was; all = refl }

  pub printed_next : (a b c : Counted W) (x y z : Bool) (piece rest before whole : List ℕ) → before ≡ piece ++ rest → So_far a b x y before whole
      → Goes contents b c y z piece → So_far a c x z rest whole
  printed_next a b c x y z piece rest before whole is h g = record {
    text = h.text ++ piece;
    goes = goes_both contents a b c x y z h.text piece h.goes g;
    all = append_assoc h.text piece rest ∙ ap (λ l. h.text ++ l) (sym is) ∙ h.all;
  }

  pub reported_end : (a b : Counted W) (x y : Bool) (rest whole : List ℕ) → rest ≡ [] → So_far a b x y rest whole → Goes contents a b x y whole
  reported_end a b x y rest whole none h =
      goes_text contents a b x y h.text whole (sym (append-nil h.text) ∙ ap (λ l. h.text ++ l) (sym none) ∙ h.all) h.goes

-- LISTS

pub record Next_one {A : Type 0} (xs : List A) (i : ℕ) : Type 0 where
  pub here : A
  pub is : slice_get xs i ≡ Some here
  pub next : drop i xs ≡ here ∷ drop (i + 1) xs

pub next_one : {A : Type 0} (xs : List A) (i : ℕ) → i < length xs → Next_one xs i
next_one xs i less =
    let p = by xs i less in
    record { here = p.0; is = p.1; next = p.2 ∙ ap (λ n. p.0 ∷ drop n xs) (let one : suc i ≡ i + 1 = omega arith in one) }
  where
    by : {A : Type 0} (xs : List A) (i : ℕ) → i < length xs → (x : A) × (slice_get xs i ≡ Some x) × (drop i xs ≡ x ∷ drop (suc i) xs)
    by [] i less = absurd (omega (arith, less))
    by (x ∷ xs) zero less = (x, refl, refl)
    by (x ∷ xs) (suc i) less = by xs i (omega (arith, less))

pub none_left : {A : Type 0} (xs : List A) (n : ℕ) → length xs ≤ n → drop n xs ≡ []
none_left [] zero few = refl
none_left [] (suc n) few = refl
none_left (x ∷ xs) zero few = absurd (omega (arith, few))
none_left (x ∷ xs) (suc n) few = none_left xs n (omega (arith, few))
