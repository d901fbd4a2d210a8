-- Leaves that use one another: where none reaches itself, a chain of uses has fewer links than there are leaves.
use Rattle.std.proofs.Common.{◌≡◌, ℕ, zero, suc, ◌+◌, ◌≤◌, ◌<◌, ◌==◌, eqb, eqb-true, eq-eqb, inl, inr, ◌⊎◌, Bool, true, false, cond, ◌||◌, List, [], ◌∷◌, ◌++◌}
use Rattle.std.proofs.Common.{length, Option, Some, None, refl, ap, sym, ◌∙◌, arith}
use Rattle.std.specs.Prelude.{slice_get}
use Rattle.std.specs.List.{list_any}
use Rattle.std.proofs.lemmas.Option.{slice_get_within}
use Rattle.gq_model.specs.machine.Lists.{any_of, or_first}
use Rattle.gq_model.specs.machine.Amounts.{Ram, Caps}
use Rattle.gq_model.specs.machine.Scenario.{System, Component, Scenario, components, system}
use Rattle.gq_model.specs.rules.Use.{uses, used_from, used_at, reaches}
use Rattle.gq_model.specs.rules.Resolve.{Unresolved, Cycle, quanta_fault, offer_fault, after_fault, routes_fault, cycle_fault, unresolved}
use Rattle.gq_laws.proofs.verified_programs.Acyclic_chain_length as chains
use Rattle.std.proofs.lemmas.Bool.{false≢true, or_left, or_right, or_cases}
use Rattle.gq_model.proofs.Small_facts.{add_none, add_next}

any_after : {A : Type 0} (test : A → Bool) (xs ys : List A) → any_of test ys ≡ true → any_of test (xs ++ ys) ≡ true
any_after test [] ys e = e
any_after test (x ∷ xs) ys e = or_right (test x) (any_of test (xs ++ ys)) (any_after test xs ys e)

from_zero : (z : ℕ) → z ≡ 0 + z
from_zero z = omega arith

module _ (system : System) where
  -- the x-th leaf uses the z-th
  abbrev pub Uses : ℕ → ℕ → Type 0
  Uses x z = (c : Component) × (slice_get system.components x ≡ Some c) × (uses system c z ≡ true)

  uses_below : (x z : ℕ) → Uses x z → x < length system.components
  uses_below x z u = slice_get_within system.components x u.0 u.1

  -- each leaf uses the one after it, and the last is there
  abbrev pub Chain : ℕ → List ℕ → Type 0
  Chain x rest = chains.Chain (length system.components) Uses x rest

  -- what holds of a used leaf holds of one of those that are used
  used_there : (c : Component) (n : ℕ) (items : List Component) (k : ℕ) (test : ℕ → Bool) → k < length items → uses system c (n + k) ≡ true
      → test (n + k) ≡ true → any_of test (used_from system c n items) ≡ true
  used_there c n [] k test below used e = absurd (omega arith)
  used_there c n (d ∷ rest) zero test below used e = by (uses system c n) (ap (uses system c) (add_none n) ∙ used)
    where
      by : (b : Bool) → b ≡ true → any_of test (cond b (n ∷ []) [] ++ used_from system c (suc n) rest) ≡ true
      by true f = or_left (test n) (any_of test (used_from system c (suc n) rest)) (ap test (add_none n) ∙ e)
      by false f = absurd (false≢true f)
  used_there c n (d ∷ rest) (suc k) test below used e =
      any_after test (cond (uses system c n) (n ∷ []) []) (used_from system c (suc n) rest)
      (used_there c (suc n) rest k test (omega arith) (ap (uses system c) (add_next n k) ∙ used) (ap test (add_next n k) ∙ e))

  -- a leaf reaches those after it in a chain
  chain_reaches : (m x y : ℕ) (rest : List ℕ) → Chain x rest → list_any (eqb y) rest ≡ true → length rest ≤ m → reaches m system y x ≡ true
  chain_reaches m x y [] h there short = absurd (false≢true there)
  chain_reaches zero x y (z ∷ rest) h there short = absurd (omega arith)
  chain_reaches (suc m) x y (z ∷ rest) h there short =
      let c = h.0.0 in
      let at : used_at system (Some c) ≡ used_at system (slice_get system.components x) = ap (used_at system) (sym h.0.1) in
      let test = λ (a : ℕ). a == y || reaches m system y a in
      ap (any_of test) (sym at)
      ∙ used_there c 0 system.components z test (chains.chain_starts (length system.components) Uses uses_below z rest h.1)
      (ap (uses system c) (sym (from_zero z)) ∙ h.0.2) (ap test (sym (from_zero z))
      ∙ by (or_cases (eqb y z) (list_any (eqb y) rest) there) (λ further. chain_reaches m z y rest h.1 further (omega arith)))
    where
      by : (eqb y z ≡ true) ⊎ (list_any (eqb y) rest ≡ true) → (list_any (eqb y) rest ≡ true → reaches m system y z ≡ true)
          → (z == y || reaches m system y z) ≡ true
      by (inl same) go = or_left (z == y) (reaches m system y z) (ap (λ a. a == y) (sym (eqb-true y z same)) ∙ eq-eqb y y refl)
      by (inr further) go = or_right (z == y) (reaches m system y z) (go further)

  no_cycle : (x : ℕ) (items : List Component) (k : ℕ) → cycle_fault system x items ≡ None → k < length items
      → reaches (length system.components) system (x + k) (x + k) ≡ true → ⊥
  no_cycle x [] k e below cycle = omega arith
  no_cycle x (c ∷ rest) k e below cycle = by (reaches (length system.components) system x x) refl e k below cycle (no_cycle (suc x) rest)
    where
      by : (b : Bool) → reaches (length system.components) system x x ≡ b → cond b (Some (Cycle c.node.name)) (cycle_fault system (suc x) rest) ≡ None → (k : ℕ)
          → k < length (c ∷ rest) → reaches (length system.components) system (x + k) (x + k) ≡ true
          → ((j : ℕ) → cycle_fault system (suc x) rest ≡ None → j < length rest → reaches (length system.components) system (suc x + j) (suc x + j) ≡ true → ⊥)
          → ⊥
      by true is f k below cycle go = absurd cc
      by false is f zero below cycle go = false≢true (sym is ∙ (ap (λ a. reaches (length system.components) system a a) (add_none x) ∙ cycle))
      by false is f (suc j) below cycle go = go j f (omega arith) (ap (λ a. reaches (length system.components) system a a) (add_next x j) ∙ cycle)

  module _ (resolved : cycle_fault system 0 system.components ≡ None) where
    -- a chain has fewer uses than there are leaves
    pub chain_short : (x : ℕ) (rest : List ℕ) → Chain x rest → length rest < length system.components
    chain_short = chains.chain_short (length system.components) Uses uses_below (λ x rest h there short.
        no_cycle 0 system.components x resolved (chains.chain_starts (length system.components) Uses uses_below x rest h)
        (ap (λ a. reaches (length system.components) system a a) (sym (from_zero x)) ∙ chain_reaches (length system.components) x x rest h there short))

none_second : (a b : Option Unresolved) → or_first a b ≡ None → b ≡ None
none_second (Some fault) b e = absurd cc
none_second None b e = e

-- in a resolved scenario no leaf reaches itself
pub resolved_acyclic : (s : Scenario) → unresolved s ≡ None → cycle_fault (system s) 0 (system s).components ≡ None
resolved_acyclic s e =
    let a = none_second (quanta_fault Ram s) _ e in
    let b = none_second (quanta_fault Caps s) _ a in
    let c = none_second (offer_fault s) _ b in
    let d = none_second (after_fault (components s) [] (components s)) _ c in none_second (routes_fault (components s)) _ d
