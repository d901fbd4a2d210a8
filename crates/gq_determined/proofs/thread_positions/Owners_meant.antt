-- The owner by chains of bounded length is the owner: uses have no cycle, so no chain of openers has more leaves than there are.
use Rattle.std.proofs.Common.{◌≡◌, ◌∙◌, ℕ, zero, suc, ◌+◌, ◌<◌, ◌≤◌, ◌==◌, ◌&&◌, Bool, true, false, List, [], ◌∷◌, length, Some, None, refl, ap, sym, arith}
use Rattle.std.specs.Prelude.{slice_get}
use Rattle.std.proofs.lemmas.Bool.{true≢false, eq-eqb}
use Rattle.gq_model.specs.machine.Scenario.{System, Component}
use Rattle.gq_laws.proofs.verified_programs.Use_chains.{Chain, chain_short}
use Rattle.gq_model.specs.rules.Resolve.{cycle_fault}
use Rattle.gq_races.specs.Races.{all_for, implies, is_owner, opens_first, opens_later, owns}
use Rattle.gq_determined.specs.Owned.{IsOwnedBy}
use Rattle.gq_determined.proofs.thread_runs.Opened_session_owner.{there_uses}
use Rattle.gq_determined.proofs.thread_positions.Unshared_leaf_owner.{for_first, for_later}

-- EACH OF SOME LEAVES

implication : (a b : Bool) → (a ≡ true → b ≡ true) → implies a b ≡ true
implication true b h = h refl
implication false b h = refl

and_true : (a b c : Bool) → a ≡ true → b ≡ true → c ≡ true → (a && b && c) ≡ true
and_true true true true p q r = refl
and_true true true false p q r = r
and_true true false c p q r = absurd (true≢false (sym q))
and_true false b c p q r = absurd (true≢false (sym p))

all_from : (u : System) (owned : ℕ → Bool) (z x y : ℕ) (cs : List Component)
    → ((k : ℕ) (c : Component) → slice_get cs k ≡ Some c → opens_first u x c ≡ true → y + k ≡ z)
    → ((k : ℕ) (c : Component) → slice_get cs k ≡ Some c → opens_later u x c ≡ true → owned (y + k) ≡ true) → all_for owned u z x y cs ≡ true
all_from u owned z x y [] first later = refl
all_from u owned z x y (d ∷ cs) first later =
    let here : y + 0 ≡ y = omega arith in
    and_true (implies (opens_first u x d) (y == z)) (implies (opens_later u x d) (owned y)) (all_for owned u z x (suc y) cs)
    (implication (opens_first u x d) (y == z) (λ opens. eq-eqb y z (sym here ∙ first 0 d refl opens)))
    (implication (opens_later u x d) (owned y) (λ opens. ap owned (sym here) ∙ later 0 d refl opens))
    (all_from u owned z x (suc y) cs
    (λ k c at opens. let next : suc y + k ≡ y + suc k = omega arith in next ∙ first (suc k) c at opens)
    (λ k c at opens. let next : suc y + k ≡ y + suc k = omega arith in ap owned next ∙ later (suc k) c at opens))

-- by chains that are longer by one leaf, of what opens sessions with a leaf
owns_from : (u : System) (n z x : ℕ) → ((y : ℕ) (c : Component) → slice_get u.components y ≡ Some c → opens_first u x c ≡ true → y ≡ z)
    → ((y : ℕ) (c : Component) → slice_get u.components y ≡ Some c → opens_later u x c ≡ true → owns n u z y ≡ true) → owns (suc n) u z x ≡ true
owns_from u n z x first later =
    all_from u (owns n u z) z x 0 u.components
    (λ k c at opens. let none : 0 + k ≡ k = omega arith in none ∙ first k c at opens)
    (λ k c at opens. let none : 0 + k ≡ k = omega arith in ap (owns n u z) none ∙ later k c at opens)

-- LONGER AND SHORTER CHAINS

-- what holds by shorter chains holds by longer ones
owns_more : (u : System) (n z x : ℕ) → owns n u z x ≡ true → owns (suc n) u z x ≡ true
owns_more u zero z x e = absurd (true≢false (sym e))
owns_more u (suc n) z x e =
    owns_from u (suc n) z x (λ y c at opens. for_first u n z x y c e at opens)
    (λ y c at opens. owns_more u n z y (for_later u n z x y c e at opens))

module _ (u : System) (acyclic : cycle_fault u 0 u.components ≡ None) where
  -- from a leaf that a chain of uses leads down from, there are fewer leaves above
  owns_within : (k n z x : ℕ) (rest : List ℕ) → Chain u x rest → length u.components ≤ length rest + k → owns n u z x ≡ true → owns k u z x ≡ true
  owns_within zero n z x rest chain enough e = let short = chain_short u acyclic x rest chain in absurd (omega (arith, short, enough))
  owns_within (suc k) zero z x rest chain enough e = absurd (true≢false (sym e))
  owns_within (suc k) (suc n) z x rest chain enough e =
      owns_from u k z x (λ y c at opens. for_first u n z x y c e at opens)
      (λ y c at opens. owns_within k n z y (x ∷ rest) ((c, at, there_uses u x c true opens), chain) (omega (arith, enough))
      (for_later u n z x y c e at opens))

  -- THE OWNER

  module _ (z x : ℕ) (below : x < length u.components) where
    by_owner : (n : ℕ) → length u.components ≡ n → owns n u z x ≡ true → IsOwnedBy u z x
    by_owner zero e owned = absurd (true≢false (sym owned))
    by_owner (suc n) e owned = record {
      first = λ y c at opens. for_first u n z x y c owned at opens;
      later = λ y c at opens. ap (λ m. owns m u z y) e ∙ owns_more u n z y (for_later u n z x y c owned at opens);
    }

    pub is_owned : is_owner u z x ≡ true → IsOwnedBy u z x
    is_owned owned = by_owner (length u.components) refl owned

    from_owned : (n : ℕ) → length u.components ≡ n → IsOwnedBy u z x → owns n u z x ≡ true
    from_owned zero e owned = absurd (omega (arith, below, e))
    from_owned (suc n) e owned =
        owns_from u n z x owned.first
        (λ y c at opens. owns_within n (length u.components) z y (x ∷ []) ((c, at, there_uses u x c true opens), below) (omega (arith, e))
        (owned.later y c at opens))

    pub owned_is : IsOwnedBy u z x → is_owner u z x ≡ true
    owned_is owned = from_owned (length u.components) refl owned
