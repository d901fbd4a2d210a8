-- Lists that are put together.
use Rattle.std.proofs.Common.{◌≡◌, ℕ, zero, suc, ◌+◌, ◌<◌, ◌≤◌, ◌⊎◌, inl, inr, List, [], ◌∷◌, ◌++◌, length, map, drop, get_or, Option, Some, IfSome}
use Rattle.std.proofs.Common.{refl, ap, sym, subst, ◌∙◌, arith, append_assoc, append-nil}
use Rattle.std.specs.Prelude.{slice_get}
use Rattle.gq_model.proofs.Small_facts.{some_same, none_some, get_within}
use Rattle.gq_laws.proofs.quota_payment.Leaf_component_positions.{get_left, get_right}

-- what stands in a list of two parts stands in one of them
pub in_append : {A : Type 0} (xs ys : List A) (k : ℕ) (a : A) → slice_get (xs ++ ys) k ≡ Some a
    → (slice_get xs k ≡ Some a) ⊎ ((j : ℕ) × (k ≡ length xs + j) × (slice_get ys j ≡ Some a))
in_append [] ys k a e = inr (k, omega arith, e)
in_append (x ∷ xs) ys zero a e = inl e
in_append (x ∷ xs) ys (suc k) a e =
    elim (in_append xs ys k a e) [
      | inl f ↦ inl f
      | inr u ↦ let h = u.1 in inr (u.0, omega (arith, h), u.2)
    ]

-- and so in two lists of such parts
pub in_both : {A B : Type 0} (xs ys : List A) (us vs : List B) (k : ℕ) (a : A) (b : B) → length us ≡ length xs → slice_get (xs ++ ys) k ≡ Some a
    → slice_get (us ++ vs) k ≡ Some b
    → ((slice_get xs k ≡ Some a) × (slice_get us k ≡ Some b))
    ⊎ ((j : ℕ) × (k ≡ length xs + j) × (slice_get ys j ≡ Some a) × (slice_get vs j ≡ Some b))
in_both [] ys [] vs k a b long e f = inr (k, omega arith, e, f)
in_both [] ys (u ∷ us) vs k a b long e f = absurd (omega (arith, long))
in_both (x ∷ xs) ys [] vs k a b long e f = absurd (omega (arith, long))
in_both (x ∷ xs) ys (u ∷ us) vs zero a b long e f = inl (e, f)
in_both (x ∷ xs) ys (u ∷ us) vs (suc k) a b long e f =
    elim (in_both xs ys us vs k a b (omega (arith, long)) e f) [
      | inl t ↦ inl t
      | inr t ↦ let h = t.1 in inr (t.0, omega (arith, h), t.2, t.3)
    ]

pub get_map : {A B : Type 0} (f : A → B) (xs : List A) (i : ℕ) (a : A) (d : B) → slice_get xs i ≡ Some a → get_or (map f xs) i d ≡ f a
get_map f [] i a d e = absurd (none_some e)
get_map f (x ∷ xs) zero a d e = ap f (some_same e)
get_map f (x ∷ xs) (suc i) a d e = get_map f xs i a d e

-- these stand in the list from the n-th place on
abbrev pub Stand : {A : Type 0} → List A → ℕ → List A → Type 0
Stand {A} all n xs = (k : ℕ) (a : A) → slice_get xs k ≡ Some a → (i : ℕ) → i ≡ n + k → slice_get all i ≡ Some a

pub stand_left : {A : Type 0} (all : List A) (n : ℕ) (xs ys : List A) → Stand all n (xs ++ ys) → Stand all n xs
stand_left all n xs ys h k a e i at = h k a (get_left xs ys k a e) i at

pub stand_right : {A : Type 0} (all : List A) (n m : ℕ) (xs ys : List A) → Stand all n (xs ++ ys) → m ≡ n + length xs → Stand all m ys
stand_right all n m xs ys h long k a e i at = h (length xs + k) a (get_right xs ys k (length xs + k) a (omega arith) e) i (omega (arith, long, at))

pub stand_tail : {A : Type 0} (all : List A) (n m : ℕ) (x : A) (xs : List A) → Stand all n (x ∷ xs) → m ≡ n + 1 → Stand all m xs
stand_tail all n m x xs h long k a e i at = h (suc k) a e i (omega (arith, long, at))

pub stand_whole : {A : Type 0} (all : List A) → Stand all 0 all
stand_whole all k a e i at = ap (slice_get all) place ∙ e
  where
    place : i ≡ k
    place = omega (arith, at)

-- LOOPS

drop_past : {A : Type 0} (xs : List A) (i : ℕ) → length xs ≤ i → drop i xs ≡ []
drop_past [] zero h = refl
drop_past [] (suc i) h = refl
drop_past (x ∷ xs) zero h = absurd (omega (arith, h))
drop_past (x ∷ xs) (suc i) h = drop_past xs i (omega (arith, h))

drop_here : {A : Type 0} (xs : List A) (i : ℕ) (x : A) → slice_get xs i ≡ Some x → drop i xs ≡ x ∷ drop (suc i) xs
drop_here [] i x e = absurd (none_some e)
drop_here (a ∷ xs) zero x e = ap (λ y. y ∷ xs) (some_same e)
drop_here (a ∷ xs) (suc i) x e = drop_here xs i x e

-- the image of one element more is put at the end
pub push_map : {A B : Type 0} (f : A → B) (xs : List A) (all : List B) (i : ℕ) (done now : List B) (b : B) → i < length xs
    → IfSome (slice_get xs i) (λ x. b ≡ f x) → now ≡ done ++ b ∷ [] → done ++ map f (drop i xs) ≡ all → now ++ map f (drop (i + 1) xs) ≡ all
push_map {A} {B} f xs all i done now b within is put so_far =
    let x = get_within xs i within in
    let same : b ≡ f x.0 = subst (λ (o : Option A). IfSome o (λ x. b ≡ f x)) x.1 is in
    let one : i + 1 ≡ suc i = omega arith in
    let step : map f (drop i xs) ≡ b ∷ map f (drop (i + 1) xs) =
    ap (map f) (drop_here xs i x.0 x.1) ∙ (λ k. sym same k ∷ map f (drop (sym one k) xs)) in
    ap (λ l. l ++ map f (drop (i + 1) xs)) put ∙ append_assoc done (b ∷ []) (map f (drop (i + 1) xs)) ∙ ap (λ l. done ++ l) (sym step) ∙ so_far

-- all are put there
pub push_done : {A B : Type 0} (f : A → B) (xs : List A) (all : List B) (i : ℕ) (done : List B) → length xs ≤ i → done ++ map f (drop i xs) ≡ all → done ≡ all
push_done f xs all i done past so_far =
    sym (append-nil done) ∙ ap (λ l. done ++ map f l) (sym (drop_past xs i past)) ∙ so_far
