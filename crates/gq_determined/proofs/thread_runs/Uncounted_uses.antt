-- Who owns and uses whom does not depend on what is counted.
use Rattle.std.proofs.Common.{◌≡◌, ℕ, zero, suc, ◌==◌, ◌&&◌, ◌||◌, cond, not, Bool, List, [], ◌∷◌, ◌++◌, length, Option, Some, None, refl, ap, ◌∙◌}
use Rattle.std.specs.Prelude.{slice_get}
use Rattle.gq_model.specs.machine.Lists.{any_of}
use Rattle.gq_model.specs.machine.Scenario.{System, Component}
use Rattle.gq_model.specs.rules.Resolve.{Cycle, cycle_fault}
use Rattle.gq_model.specs.rules.Use.{uses, used_from, used_at, reaches}
use Rattle.gq_laws.specs.internal.Uncounted.{uncounted}
use Rattle.gq_races.specs.Races.{opens_first, opens_later, implies, all_for, owns, is_owner, is_shared, any_below}

module _ (s : System) where
  -- OWNERS

  all_same : (owned more : ℕ → Bool) → ((y : ℕ) → owned y ≡ more y) → (z x y : ℕ) (cs : List Component)
      → all_for owned (uncounted s) z x y cs ≡ all_for more s z x y cs
  all_same owned more same z x y [] = refl
  all_same owned more same z x y (c ∷ cs) =
      λ e. implies (opens_first s x c) (y == z) && implies (opens_later s x c) (same y e) && all_same owned more same z x (suc y) cs e

  owns_same : (n z x : ℕ) → owns n (uncounted s) z x ≡ owns n s z x
  owns_same zero z x = refl
  owns_same (suc n) z x = all_same (owns n (uncounted s) z) (owns n s z) (owns_same n z) z x 0 s.components

  below_same : (test more : ℕ → Bool) → ((y : ℕ) → test y ≡ more y) → (n : ℕ) → any_below test n ≡ any_below more n
  below_same test more same zero = refl
  below_same test more same (suc n) = λ e. same n e || below_same test more same n e

  pub shared_same : (x : ℕ) → is_shared (uncounted s) x ≡ is_shared s x
  shared_same x =
      ap not (below_same (λ z. is_owner (uncounted s) z x) (λ z. is_owner s z x) (λ z. owns_same (length s.components) z x) (length s.components))

  -- USES

  used_same : (c : Component) (x : ℕ) (cs : List Component) → used_from (uncounted s) c x cs ≡ used_from s c x cs
  used_same c x [] = refl
  used_same c x (d ∷ cs) = ap (λ l. cond (uses s c x) (x ∷ []) [] ++ l) (used_same c (suc x) cs)

  used_at_same : (o : Option Component) → used_at (uncounted s) o ≡ used_at s o
  used_at_same None = refl
  used_at_same (Some c) = used_same c 0 s.components

  any_same : (test more : ℕ → Bool) → ((y : ℕ) → test y ≡ more y) → (l : List ℕ) → any_of test l ≡ any_of more l
  any_same test more same [] = refl
  any_same test more same (x ∷ l) = λ e. same x e || any_same test more same l e

  reaches_same : (n y x : ℕ) → reaches n (uncounted s) y x ≡ reaches n s y x
  reaches_same zero y x = refl
  reaches_same (suc n) y x =
      any_same (λ z. z == y || reaches n (uncounted s) y z) (λ z. z == y || reaches n s y z) (λ z e. z == y || reaches_same n y z e)
      (used_at (uncounted s) (slice_get s.components x))
      ∙ ap (any_of (λ z. z == y || reaches n s y z)) (used_at_same (slice_get s.components x))

  pub cycle_same : (x : ℕ) (cs : List Component) → cycle_fault (uncounted s) x cs ≡ cycle_fault s x cs
  cycle_same x [] = refl
  cycle_same x (c ∷ cs) = λ e. cond (reaches_same (length s.components) x x e) (Some (Cycle c.node.name)) (cycle_same (suc x) cs e)
