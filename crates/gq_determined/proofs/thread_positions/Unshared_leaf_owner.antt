-- Sessions with a leaf that is not shared are opened for one leaf alone, its owner.
use Rattle.std.proofs.Common.{◌≡◌, ℕ, inl, inr, zero, suc, ◌+◌, ◌==◌, ◌&&◌, Bool, true, false, not, List, [], ◌∷◌, length, Some}
use Rattle.std.proofs.Common.{refl, ap, sym, ◌∙◌, arith}
use Rattle.std.specs.Prelude.{slice_get}
use Rattle.std.proofs.lemmas.Bool.{true≢false, or_cases}
use Rattle.std.proofs.lemmas.Bool.Decides.{eqb_tells}
use Rattle.gq_model.specs.machine.Scenario.{System, Component}
use Rattle.gq_model.proofs.Small_facts.{none_some, some_same}
use Rattle.gq_races.specs.Races.{opens_first, opens_later, implies, all_for, owns, is_owner, any_below}
use Rattle.gq_determined.specs.internal.Threads.{is_unshared, Starts}

both_hold : (a b : Bool) → (a && b) ≡ true → (a ≡ true) × (b ≡ true)
both_hold true b e = (refl, e)
both_hold false b e = absurd (true≢false (sym e))

implied : (a b : Bool) → implies a b ≡ true → a ≡ true → b ≡ true
implied true b e h = e
implied false b e h = absurd (true≢false (sym h))

is_equal : (m n : ℕ) → (m == n) ≡ true → m ≡ n
is_equal m n e = elim (eqb_tells m n) [ inl t ↦ t.1 | inr t ↦ absurd (true≢false (sym e ∙ t.0)) ]

not_false : (b : Bool) → not (not b) ≡ true → b ≡ true
not_false true e = refl
not_false false e = absurd (true≢false (sym e))

-- what opens sessions there does so for z
all_at : (u : System) (owned : ℕ → Bool) (z x y : ℕ) (cs : List Component) (k : ℕ) (c : Component) → all_for owned u z x y cs ≡ true → slice_get cs k ≡ Some c
    → (implies (opens_first u x c) (y + k == z) ≡ true) × (implies (opens_later u x c) (owned (y + k)) ≡ true)
all_at u owned z x y [] k c e at = absurd (none_some at)
all_at u owned z x y (d ∷ cs) zero c e at =
    let all = both_hold (implies (opens_first u x d) (y == z) && implies (opens_later u x d) (owned y)) (all_for owned u z x (suc y) cs) e in
    let both = both_hold (implies (opens_first u x d) (y == z)) (implies (opens_later u x d) (owned y)) all.0 in
    let same : d ≡ c = some_same at in
    let here : y ≡ y + zero = omega arith in (
      (λ i. implies (opens_first u x (sym same i)) (sym here i == z)) ∙ both.0,
      (λ i. implies (opens_later u x (sym same i)) (owned (sym here i))) ∙ both.1,
    )
all_at u owned z x y (d ∷ cs) (suc k) c e at =
    let all = both_hold (implies (opens_first u x d) (y == z) && implies (opens_later u x d) (owned y)) (all_for owned u z x (suc y) cs) e in
    let both = both_hold (implies (opens_first u x d) (y == z)) (implies (opens_later u x d) (owned y)) all.0 in
    let further = all_at u owned z x (suc y) cs k c all.1 at in
    let next : y + suc k ≡ suc y + k = omega arith in (
      (λ i. implies (opens_first u x c) (next i == z)) ∙ further.0,
      (λ i. implies (opens_later u x c) (owned (next i))) ∙ further.1,
    )

-- whoever sessions with a leaf are opened for is its owner
module _ (u : System) (m w x y : ℕ) (c : Component) (e : owns (suc m) u w x ≡ true) (at : slice_get u.components y ≡ Some c) where
  from_zero : 0 + y ≡ y
  from_zero = omega arith

  pub for_first : opens_first u x c ≡ true → y ≡ w
  for_first opens =
      sym from_zero ∙ is_equal (0 + y) w (implied (opens_first u x c) (0 + y == w) (all_at u (owns m u w) w x 0 u.components y c e at).0 opens)

  pub for_later : opens_later u x c ≡ true → owns m u w y ≡ true
  for_later opens =
      ap (owns m u w) (sym from_zero)
      ∙ implied (opens_later u x c) (owns m u w (0 + y)) (all_at u (owns m u w) w x 0 u.components y c e at).1 opens

pub starts_owner : (u : System) (m w x n z : ℕ) → owns m u w x ≡ true → Starts u n z x → z ≡ w
starts_owner u zero w x n z e s = absurd (true≢false (sym e))
starts_owner u (suc m) w x zero z e s = for_first u m w x z s.0 e s.1 s.2
starts_owner u (suc m) w x (suc n) z e s = starts_owner u m w s.0 n z (for_later u m w x s.0 s.1 e s.2 s.3) s.4

any_found : (test : ℕ → Bool) (n : ℕ) → any_below test n ≡ true → (z : ℕ) × (test z ≡ true)
any_found test zero e = absurd (true≢false (sym e))
any_found test (suc n) e = elim (or_cases (test n) (any_below test n) e) [ inl is ↦ (n, is) | inr further ↦ any_found test n further ]

pub owner_of : (u : System) (x : ℕ) → is_unshared u x ≡ true → (z : ℕ) × (is_owner u z x ≡ true)
owner_of u x e = any_found (λ z. is_owner u z x) (length u.components) (not_false (any_below (λ z. is_owner u z x) (length u.components)) e)

-- so it is one leaf
pub one_start : (u : System) (x : ℕ) → is_unshared u x ≡ true → (n m y z : ℕ) → Starts u n y x → Starts u m z x → y ≡ z
one_start u x single n m y z s t =
    let w = owner_of u x single in
    starts_owner u (length u.components) w.0 x n y w.1 s ∙ sym (starts_owner u (length u.components) w.0 x m z w.1 t)
