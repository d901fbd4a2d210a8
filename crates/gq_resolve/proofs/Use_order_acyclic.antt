-- Where leaves stand in an order of use, none reaches itself.
use Rattle.std.proofs.Common.{◌≡◌, ◌<◌, ◌≤◌, ◌⊎◌, inl, inr, ℕ, zero, suc, ◌==◌, ◌||◌, Bool, true, false, cond, List, [], ◌∷◌, get_or, length}
use Rattle.std.proofs.Common.{Some, None, refl, ap, sym, subst, ◌∙◌, arith}
use Rattle.std.specs.Prelude.{slice_get}
use Rattle.std.proofs.lemmas.Bool.Decides.{nat_tests}
use Rattle.std.proofs.lemmas.List.{get_or_default}
use Rattle.std.proofs.lemmas.Option.{slice_get_cases}
use Rattle.gq_model.specs.machine.Lists.{any_of}
use Rattle.gq_resolve.specs.Reaching.{used_there, reaches_by, first_from, first_on_cycle}
use Rattle.gq_resolve.specs.internal.Use_order.{AreBelow, IsOrder}

no_more : false ≡ true → ⊥
no_more e = cc

-- one of two holds
one_of : (a b : Bool) → a || b ≡ true → (a ≡ true) ⊎ (b ≡ true)
one_of true b e = inl refl
one_of false b e = inr e

module _ (used : List (List ℕ)) (levels : List ℕ) (order : IsOrder used levels) where
  abbrev Level : ℕ → ℕ
  Level x = get_or levels x 0

  -- what leads to the y-th leaf stands above it
  lower : (y z level : ℕ) (b : Bool) → (b ≡ true → Level y < Level z) → Level z < level → z == y || b ≡ true → Level y < level
  lower y z level b reaches less e = by (one_of (z == y) b e)
    where
      by : (z == y ≡ true) ⊎ (b ≡ true) → Level y < level
      by (inl is) = let same : z ≡ y = grind (arith, nat_tests) in subst (λ k. Level k < level) same less
      by (inr is) = let below = reaches is in omega (arith, below, less)

  among : (y level : ℕ) (f : ℕ → Bool) → ((z : ℕ) → f z ≡ true → Level y < Level z) → (l : List ℕ) → AreBelow levels level l
      → any_of (λ z. z == y || f z) l ≡ true → Level y < level
  among y level f reaches [] below e = absurd (no_more e)
  among y level f reaches (z ∷ rest) below e =
      by (one_of (z == y || f z) (any_of (λ z. z == y || f z) rest) e)
      (λ there. among y level f reaches rest (λ k less. below (suc k) (omega (arith, less))) there)
    where
      by : (z == y || f z ≡ true) ⊎ (any_of (λ z. z == y || f z) rest ≡ true) → (any_of (λ z. z == y || f z) rest ≡ true → Level y < level) → Level y < level
      by (inl here) more = lower y z level (f z) (reaches z) (below 0 (omega arith)) here
      by (inr there) more = more there

  rises : (n y x : ℕ) → reaches_by n used y x ≡ true → Level y < Level x
  rises zero y x e = absurd (no_more e)
  rises (suc n) y x e = by (rises n y) (slice_get_cases used x).1
    where
      row : (x : ℕ) (l : List ℕ) → x < length used → get_or used x l ≡ l → get_or used x [] ≡ l
      row x l less is = get_or_default used x [] l less ∙ is

      by : ((z : ℕ) → reaches_by n used y z ≡ true → Level y < Level z)
          → ((l : List ℕ) × (x < length used) × (slice_get used x ≡ Some l) × (get_or used x l ≡ l)) ⊎ ((length used ≤ x) × (slice_get used x ≡ None))
          → Level y < Level x
      by before (inl p) = among y (Level x) (reaches_by n used y) before p.0
          (subst (AreBelow levels (Level x)) (row x p.0 p.1 p.3) (order x p.1))
          (sym (ap (λ o. any_of (λ z. z == y || reaches_by n used y z) (used_there o)) p.2) ∙ e)
      by before (inr p) = absurd (no_more (sym (ap (λ o. any_of (λ z. z == y || reaches_by n used y z) (used_there o)) p.1) ∙ e))

  none_itself : (n x : ℕ) → reaches_by n used x x ≡ false
  none_itself n x = by (reaches_by n used x x) refl
    where
      by : (b : Bool) → reaches_by n used x x ≡ b → reaches_by n used x x ≡ false
      by false e = e
      by true e = let less = rises n x x e in absurd (omega (arith, less))

  none_from : (n x : ℕ) → first_from used x n ≡ None
  none_from zero x = refl
  none_from (suc n) x = ap (λ b. cond b (Some x) (first_from used (suc x) n)) (none_itself (length used) x) ∙ none_from n (suc x)

  pub no_cycle : first_on_cycle used ≡ None
  no_cycle = none_from (length used) 0
