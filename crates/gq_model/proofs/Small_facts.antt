-- Small facts on tests, numbers, lists and options that proofs of several crates cite; what std has, as `and_parts` and `or_parts`, is not repeated here.
use Rattle.std.proofs.Common.{◌≡◌, ◌≤◌, ◌<◌, ◌+◌, ℕ, zero, suc, ◌==◌, ◌&&◌, inl, inr, Bool, true, false, List, [], ◌∷◌, length, drop, Option, Some, None}
use Rattle.std.proofs.Common.{arith, refl, sym, ap}
use Rattle.std.specs.Prelude.{slice_get, slice_set, sum_by}
use Rattle.std.proofs.lemmas.Bool.{and_parts, eqb-true, true≢false, false≢true}
use Rattle.std.proofs.lemmas.Bool.Decides.{eqb_tells}
use Rattle.std.proofs.lemmas.List.Sums.{sum_by-cons}
use Rattle.gq_model.specs.machine.Lists.{or_first}
use Rattle.gq_model.specs.machine.Program.{text_eq}

-- TESTS

pub not_both : (b : Bool) → b ≡ true → b ≡ false → ⊥
not_both true e f = true≢false f
not_both false e f = false≢true e

pub equal_self : (n : ℕ) → (n == n) ≡ true
equal_self n = elim (eqb_tells n n) [ inl e ↦ e.0 | inr e ↦ absurd (e.1 refl) ]

-- NUMBERS

pub add_none : (n : ℕ) → n ≡ n + 0
add_none n = omega arith

pub none_add : (n : ℕ) → 0 + n ≡ n
none_add n = omega arith

pub add_next : (n k : ℕ) → suc n + k ≡ n + suc k
add_next n k = omega arith

-- OPTIONS

pub some_same : {A : Type 0} {a b : A} → Some a ≡ Some b → a ≡ b
some_same e = cc

pub none_some : {A : Type 0} {a : A} → None ≡ Some a → ⊥
none_some e = cc

pub some_none : {A : Type 0} {a : A} → Some a ≡ None → ⊥
some_none e = cc

-- neither of two is there where the first of them is not
pub or_first_none : {A : Type 0} (a b : Option A) → or_first a b ≡ None → (a ≡ None) × (b ≡ None)
or_first_none None b e = (refl, e)
or_first_none (Some a) b e = absurd (some_none e)

-- LISTS

pub get_within : {A : Type 0} (xs : List A) (i : ℕ) → i < length xs → (a : A) × (slice_get xs i ≡ Some a)
get_within [] i h = absurd (omega (arith, h))
get_within (x ∷ xs) zero h = (x, refl)
get_within (x ∷ xs) (suc i) h = get_within xs i (omega (arith, h))

-- what stands there is set again
pub set_there : {A : Type 0} (items : List A) (i : ℕ) (a : A) → slice_get items i ≡ Some a → slice_set items i a ≡ items
set_there [] i a e = absurd (none_some e)
set_there (b ∷ rest) zero a e = ap (λ x. x ∷ rest) (sym (some_same e))
set_there (b ∷ rest) (suc i) a e = ap (λ l. b ∷ l) (set_there rest i a e)

-- what is left from a place on starts with what stands there
pub first_left : {A : Type 0} (items : List A) (i : ℕ) (a : A) (rest : List A) → drop i items ≡ a ∷ rest
    → (slice_get items i ≡ Some a) × (drop (suc i) items ≡ rest)
first_left [] zero a rest e = cc
first_left [] (suc i) a rest e = cc
first_left (b ∷ items) zero a rest e = (cc, cc)
first_left (b ∷ items) (suc i) a rest e = first_left items i a rest e

-- where each term is no greater, neither is the sum
pub sum_less : {A : Type 0} (f g : A → ℕ) (items : List A) → ((k : ℕ) (a : A) → slice_get items k ≡ Some a → f a ≤ g a) → sum_by f items ≤ sum_by g items
sum_less f g [] h = omega arith
sum_less f g (a ∷ items) h =
    let first = h zero a refl in
    let rest = sum_less f g items (λ k b e. h (suc k) b e) in
    omega (arith, first, rest, sum_by-cons f a items, sum_by-cons g a items)

-- TEXTS

pub text_is : (a b : List ℕ) → text_eq a b ≡ true → a ≡ b
text_is [] [] e = refl
text_is [] (y ∷ ys) e = absurd cc
text_is (x ∷ xs) [] e = absurd cc
text_is (x ∷ xs) (y ∷ ys) e = let both = and_parts (x == y) (text_eq xs ys) e in (λ i. eqb-true x y both.0 i ∷ text_is xs ys both.1 i)

pub text_self : (s : List ℕ) → text_eq s s ≡ true
text_self [] = refl
text_self (a ∷ rest) = (λ i. equal_self a i && text_self rest i)
