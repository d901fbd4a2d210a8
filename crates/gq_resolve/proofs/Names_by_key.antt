-- Things by the numbers that are made of their names.
use Rattle.std.proofs.Common.{◌≡◌, ◌<◌, ◌≤◌, ℕ, zero, suc, arith, List, [], ◌∷◌, ◌++◌, length, get_or, map, ◌⊎◌, refl, ap, sym, ◌∙◌}
use Rattle.gq_program.specs.Name_keys.{key_of}
use Rattle.gq_program.proofs.Skipped_list_ends.{not_both}

module _ {X : Type 0} (name : X → List ℕ) where
  abbrev pub keys : List X → List ℕ
  keys items = map (λ x. key_of (name x)) items

  pub length_keys : (items : List X) → length (keys items) ≡ length items
  length_keys [] = refl
  length_keys (x ∷ rest) = ap suc (length_keys rest)

  key_at : (items : List X) (i : ℕ) (e : X) → i < length items → get_or (keys items) i 0 ≡ key_of (name (get_or items i e))
  key_at [] i e less = absurd (omega (arith, less))
  key_at (x ∷ rest) zero e less = refl
  key_at (x ∷ rest) (suc i) e less = key_at rest i e (omega (arith, less))

  pub keys_append : (xs : List X) (x : X) → keys (xs ++ x ∷ []) ≡ keys xs ++ key_of (name x) ∷ []
  keys_append [] x = refl
  keys_append (y ∷ rest) x = ap (λ (l : List ℕ). key_of (name y) ∷ l) (keys_append rest x)

  -- outside of the places among which its number stands none has a name
  module _ (sought : List ℕ) (items : List X) (key first end : ℕ) (k : key ≡ key_of sought)
      (within : (i : ℕ) → i < length (keys items) → get_or (keys items) i 0 ≡ key → (first ≤ i) × (i < end)) where
    pub others : (i : ℕ) → i < length items → (i < first) ⊎ (end ≤ i) → (e : X) → key_of (name (get_or items i e)) ≡ key_of sought → ⊥
    others i less out e same =
        let many = length_keys items in not_both i first end (within i (omega (arith, less, many)) (key_at items i e less ∙ (same ∙ sym k))) out
