-- Which servers a leaf reaches by uses, over however many others.
use Rattle.std.proofs.Common.{◌≡◌, ◌≢◌, ◌<◌, ◌≤◌, ◌⊎◌, inl, inr, ℕ, zero, suc, ◌+◌, ◌==◌, ◌||◌, eqb, eq-eqb, eqb-true, Bool, true, false, cond}
use Rattle.std.proofs.Common.{List, [], ◌∷◌, ◌++◌, length, Option, Some, None, refl, ap, sym, ◌∙◌, subst, arith}
use Rattle.std.specs.List.{list_any}
use Rattle.std.specs.Prelude.{is_some, slice_get}
use Rattle.std.proofs.lemmas.Bool.{true≢false, or_cases, or_left, or_right}
use Rattle.std.proofs.lemmas.Option.{slice_get_within}
use Rattle.gq_model.specs.machine.Lists.{any_of}
use Rattle.gq_model.specs.machine.Routes.{server_of}
use Rattle.gq_model.specs.machine.Scenario.{Component, Scenario, System, system}
use Rattle.gq_model.specs.rules.Resolve.{cycle_fault}
use Rattle.gq_model.specs.rules.Use.{is_there, reaches, services, used_at, used_from, uses}
use Rattle.gq_laws.specs.Sound_scenarios.{IsSound}
use Rattle.gq_laws.specs.internal.Uncounted.{uncounted}
use Rattle.gq_laws.proofs.progress.Lasting_world_invariant.{server_some}
use Rattle.gq_laws.proofs.ready.Routed_leaf_services.{found}
use Rattle.gq_laws.proofs.verified_programs.Use_chains.{Chain, Uses, chain_short}
use Rattle.gq_races.specs.Races.{any_below}
use Rattle.gq_determined.proofs.thread_positions.First_request_given.{equal_of}

-- LISTS

any_found : {A : Type 0} (test : A → Bool) (l : List A) → any_of test l ≡ true → (a : A) × (test a ≡ true)
any_found test [] e = absurd (true≢false (sym e))
any_found test (a ∷ l) e = elim (or_cases (test a) (any_of test l) e) [ inl f ↦ (a, f) | inr f ↦ any_found test l f ]

there_is : (z : ℕ) (o : Option ℕ) → is_there z o ≡ true → o ≡ Some z
there_is z None e = absurd (true≢false (sym e))
there_is z (Some y) e = ap Some (equal_of y z e)

-- one of the first n passes a test, or none does
pub below_found : (test : ℕ → Bool) (n : ℕ) → any_below test n ≡ true → (y : ℕ) × (test y ≡ true)
below_found test zero e = absurd (true≢false (sym e))
below_found test (suc n) e = elim (or_cases (test n) (any_below test n) e) [ inl f ↦ (n, f) | inr f ↦ below_found test n f ]

pub below_there : (test : ℕ → Bool) (n y : ℕ) → y < n → test y ≡ true → any_below test n ≡ true
below_there test zero y below e = absurd (omega (arith, below))
below_there test (suc n) y below e = by (test n) refl (λ less. below_there test n y less e)
  where
    less : test n ≡ false → y < n
    less f = let other : y ≢ n = (λ same. true≢false (sym e ∙ (ap test same ∙ f))) in omega (arith, below, other)

    by : (b : Bool) → test n ≡ b → (y < n → any_below test n ≡ true) → any_below test (suc n) ≡ true
    by true f more = or_left (test n) (any_below test n) f
    by false f more = or_right (test n) (any_below test n) (more (less f))

any_after : {A : Type 0} (test : A → Bool) (xs ys : List A) → any_of test ys ≡ true → any_of test (xs ++ ys) ≡ true
any_after test [] ys e = e
any_after test (x ∷ xs) ys e = or_right (test x) (any_of test (xs ++ ys)) (any_after test xs ys e)

module _ (system : System) where
  from_used : (c : Component) (test : ℕ → Bool) (n : ℕ) (items : List Component) → any_of test (used_from system c n items) ≡ true
      → (z : ℕ) × (uses system c z ≡ true) × (test z ≡ true)
  from_used c test n [] e = absurd (true≢false (sym e))
  from_used c test n (d ∷ rest) e = by (uses system c n) refl e (from_used c test (suc n) rest)
    where
      by : (b : Bool) → uses system c n ≡ b → any_of test (cond b (n ∷ []) [] ++ used_from system c (suc n) rest) ≡ true
          → (any_of test (used_from system c (suc n) rest) ≡ true → (z : ℕ) × (uses system c z ≡ true) × (test z ≡ true))
          → (z : ℕ) × (uses system c z ≡ true) × (test z ≡ true)
      by true is f more = elim (or_cases (test n) (any_of test (used_from system c (suc n) rest)) f) [
        | inl g ↦ (n, is, g)
        | inr g ↦ more g
      ]
      by false is f more = more f

  used_there : (c : Component) (n : ℕ) (items : List Component) (k z : ℕ) (test : ℕ → Bool) → n + k ≡ z → k < length items → uses system c z ≡ true
      → test z ≡ true → any_of test (used_from system c n items) ≡ true
  used_there c n [] k z test at below used e = absurd (omega (arith, below))
  used_there c n (d ∷ rest) zero z test at below used e = by (uses system c n) (ap (uses system c) same ∙ used)
    where
      same : n ≡ z
      same = omega (arith, at)

      by : (b : Bool) → b ≡ true → any_of test (cond b (n ∷ []) [] ++ used_from system c (suc n) rest) ≡ true
      by true f = or_left (test n) (any_of test (used_from system c (suc n) rest)) (ap test same ∙ e)
      by false f = absurd (true≢false (sym f))
  used_there c n (d ∷ rest) (suc k) z test at below used e =
      any_after test (cond (uses system c n) (n ∷ []) []) (used_from system c (suc n) rest)
      (used_there c (suc n) rest k z test (omega (arith, at)) (omega (arith, below)) used e)

  -- whoever reaches a leaf uses it, or a leaf that reaches it
  reach_uses : (k y x : ℕ) → reaches (suc k) system y x ≡ true → (z : ℕ) × Uses system x z × ((z ≡ y) ⊎ (reaches k system y z ≡ true))
  reach_uses k y x e = by (slice_get system.components x) refl e
    where
      test : ℕ → Bool
      test z = z == y || reaches k system y z

      by : (o : Option Component) → slice_get system.components x ≡ o → any_of (λ z. z == y || reaches k system y z) (used_at system o) ≡ true
          → (z : ℕ) × Uses system x z × ((z ≡ y) ⊎ (reaches k system y z ≡ true))
      by None at f = absurd (true≢false (sym f))
      by (Some c) at f =
          let p = from_used c (λ z. z == y || reaches k system y z) 0 system.components f in (
            p.0,
            (c, at, p.1),
            elim (or_cases (p.0 == y) (reaches k system y p.0) p.2) [ inl g ↦ inl (equal_of p.0 y g) | inr g ↦ inr g ],
          )

  -- a leaf reaches what it uses, and what that reaches
  reach_by : (k x z y : ℕ) → Uses system x z → z < length system.components → (z == y || reaches k system y z) ≡ true → reaches (suc k) system y x ≡ true
  reach_by k x z y h below e =
      let start : 0 + z ≡ z = omega arith in
      ap (λ o. any_of (λ z. z == y || reaches k system y z) (used_at system o)) h.1
      ∙ used_there h.0 0 system.components z z (λ z. z == y || reaches k system y z) start below h.2 e

  -- the last of them is used
  pub reach_used : (k y x : ℕ) → reaches k system y x ≡ true → (z : ℕ) × Uses system z y
  reach_used zero y x e = absurd (true≢false (sym e))
  reach_used (suc k) y x e =
      let p = reach_uses k y x e in
      elim p.2 [ inl f ↦ (x, subst (Uses system x) f p.1) | inr f ↦ reach_used k y p.0 f ]

  -- chains of uses from a leaf have fewer uses
  abbrev pub IsShort : ℕ → ℕ → Type 0
  IsShort n z = (rest : List ℕ) → Chain system z rest → length rest < n

  pub short_used : (n x z : ℕ) → IsShort (suc n) x → Uses system x z → IsShort n z
  short_used n x z short u rest chain = let less = short (z ∷ rest) (u, chain) in omega (arith, less)

  short_more : (n z : ℕ) → IsShort n z → IsShort (suc n) z
  short_more n z short rest chain = let less = short rest chain in omega (arith, less)

  pub short_reached : (k n x y : ℕ) → IsShort (suc n) x → reaches k system y x ≡ true → IsShort n y
  short_reached zero n x y short e = absurd (true≢false (sym e))
  short_reached (suc k) n x y short e =
      let p = reach_uses k y x e in
      elim p.2 [
        | inl f ↦ subst (IsShort n) f (short_used n x p.0 short p.1)
        | inr f ↦ short_reached k n p.0 y (short_more n p.0 (short_used n x p.0 short p.1)) f
      ]

module _ (s : Scenario) (sound : IsSound s) where
  abbrev u : System
  u = uncounted (system s)

  -- a leaf that is used is a server
  pub used_server : (x z : ℕ) → Uses u x z → (d : Component) × (slice_get u.components z ≡ Some d) × (is_some d.node.provides ≡ true)
  used_server x z h =
      let a = any_found (λ service. is_there z (server_of u h.0 service)) (services h.0) h.2 in
      let to : server_of u h.0 a.0 ≡ Some z = there_is z (server_of u h.0 a.0) a.1 in
      let d = found s z h.0 a.0 to in
      (d.0, d.1, server_some s sound x z h.0 d.0 a.0 h.1 to d.1)

  pub used_below : (x z : ℕ) → Uses u x z → z < length u.components
  used_below x z h = let d = used_server x z h in slice_get_within u.components z d.0 d.1

  reach_chain : (k y x : ℕ) → reaches k u y x ≡ true → (rest : List ℕ) × Chain u x rest × (list_any (eqb y) rest ≡ true)
  reach_chain zero y x e = absurd (true≢false (sym e))
  reach_chain (suc k) y x e =
      let p = reach_uses u k y x e in
      elim p.2 [
        | inl f ↦ (p.0 ∷ [], (p.1, used_below x p.0 p.1), or_left (eqb y p.0) false (eq-eqb y p.0 (sym f)))
        | inr f ↦ (let q = reach_chain k y p.0 f in (p.0 ∷ q.0, (p.1, q.1), or_right (eqb y p.0) (list_any (eqb y) q.0) q.2))
      ]

  chain_reaches : (k x y : ℕ) (rest : List ℕ) → Chain u x rest → list_any (eqb y) rest ≡ true → length rest ≤ k → reaches k u y x ≡ true
  chain_reaches k x y [] h there short = absurd (true≢false (sym there))
  chain_reaches zero x y (z ∷ rest) h there short = absurd (omega (arith, short))
  chain_reaches (suc k) x y (z ∷ rest) h there short =
      reach_by u k x z y h.0 (used_below x z h.0) (elim (or_cases (eqb y z) (list_any (eqb y) rest) there) [
        | inl f ↦ or_left (z == y) (reaches k u y z) (eq-eqb z y (sym (eqb-true y z f)))
        | inr f ↦ or_right (z == y) (reaches k u y z) (chain_reaches k z y rest h.1 f (omega (arith, short)))
      ])

  -- what is counted does not matter
  abbrev real : System
  real = system s

  pub to_real : (k y x : ℕ) → reaches k u y x ≡ true → reaches k real y x ≡ true
  to_real zero y x e = absurd (true≢false (sym e))
  to_real (suc k) y x e =
      let p = reach_uses u k y x e in
      reach_by real k x p.0 y p.1 (used_below x p.0 p.1) (elim p.2 [
        | inl f ↦ or_left (p.0 == y) (reaches k real y p.0) (eq-eqb p.0 y f)
        | inr f ↦ or_right (p.0 == y) (reaches k real y p.0) (to_real k y p.0 f)
      ])

  pub of_real : (k y x : ℕ) → reaches k real y x ≡ true → reaches k u y x ≡ true
  of_real zero y x e = absurd (true≢false (sym e))
  of_real (suc k) y x e =
      let p = reach_uses real k y x e in
      reach_by u k x p.0 y p.1 (used_below x p.0 p.1) (elim p.2 [
        | inl f ↦ or_left (p.0 == y) (reaches k u y p.0) (eq-eqb p.0 y f)
        | inr f ↦ or_right (p.0 == y) (reaches k u y p.0) (of_real k y p.0 f)
      ])

  module _ (acyclic : cycle_fault u 0 u.components ≡ None) where
    -- so is what such a leaf uses
    pub reach_one : (x z : ℕ) → Uses u x z → reaches (length u.components) u z x ≡ true
    reach_one x z h =
        let chain : Chain u x (z ∷ []) = (h, used_below x z h) in
        let short = chain_short u acyclic x (z ∷ []) chain in
        chain_reaches (length u.components) x z (z ∷ []) chain (or_left (eqb z z) false (eq-eqb z z refl)) (omega (arith, short))

    pub reach_more : (x z y : ℕ) → Uses u x z → reaches (length u.components) u y z ≡ true → reaches (length u.components) u y x ≡ true
    reach_more x z y h e =
        let q = reach_chain (length u.components) y z e in
        let chain : Chain u x (z ∷ q.0) = (h, q.1) in
        let short = chain_short u acyclic x (z ∷ q.0) chain in
        chain_reaches (length u.components) x y (z ∷ q.0) chain (or_right (eqb y z) (list_any (eqb y) q.0) q.2) (omega (arith, short))
