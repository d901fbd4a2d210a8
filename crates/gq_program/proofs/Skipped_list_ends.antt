-- What makes no difference at the start of a list, or at its end.
use Rattle.std.proofs.Common.{◌≡◌, ◌<◌, ◌≤◌, ℕ, zero, suc, arith, List, [], ◌∷◌, drop, length, get_or, ◌⊎◌, inl, inr, refl, sym, ◌∙◌}

module _ {X A : Type 0} (None : X → Type 0) (f : List X → A) (next : (x : X) (xs : List X) → None x → f (x ∷ xs) ≡ f xs) where
  before : (items : List X) (n : ℕ) → ((i : ℕ) → i < length items → i < n → (e : X) → None (get_or items i e)) → f (drop n items) ≡ f items
  before items zero h = refl
  before [] (suc n) h = refl
  before (x ∷ xs) (suc n) h =
      before xs n (λ i less early e. h (suc i) (omega (arith, less)) (omega (arith, early)) e) ∙ sym (next x xs (h 0 (omega arith) (omega arith) x))

  after : (items : List X) (n : ℕ) → ((i : ℕ) → i < length items → n ≤ i → (e : X) → None (get_or items i e)) → f (drop n items) ≡ f []
  after [] zero h = refl
  after [] (suc n) h = refl
  after (x ∷ xs) zero h =
      next x xs (h 0 (omega arith) (omega arith) x) ∙ after xs zero (λ i less late e. h (suc i) (omega (arith, less)) (omega arith) e)
  after (x ∷ xs) (suc n) h = after xs n (λ i less late e. h (suc i) (omega (arith, less)) (omega (arith, late)) e)

  -- none of those before the first of these places, or from the second on, makes a difference
  abbrev pub AreNone : List X → ℕ → ℕ → Type 0
  AreNone items first end = (i : ℕ) → i < length items → (i < first) ⊎ (end ≤ i) → (e : X) → None (get_or items i e)

  -- without those before the first place
  pub skipped : (items : List X) (first end : ℕ) → AreNone items first end → f (drop first items) ≡ f items
  skipped items first end h = before items first (λ i less early e. h i less (inl early) e)

  -- from the last place on
  pub rest : (items : List X) (first end n : ℕ) → AreNone items first end → end ≤ n → f (drop n items) ≡ f []
  rest items first end n h past = after items n (λ i less late e. h i less (inr (omega (arith, past, late))) e)

-- no place is both within and outside
pub not_both : (i first end : ℕ) → (first ≤ i) × (i < end) → (i < first) ⊎ (end ≤ i) → ⊥
not_both i first end w (inl before) = omega (arith, w.0, before)
not_both i first end w (inr after) = omega (arith, w.1, after)
