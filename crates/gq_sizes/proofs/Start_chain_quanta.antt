-- Least quanta of leaves that start after others: along chains of starts, in which no leaf stands twice, the numbers come to rest.
use Rattle.std.proofs.Common.{◌≡◌, ℕ, zero, suc, ◌+◌, ◌≤◌, ◌<◌, ◌||◌, eqb, eqb-true, ◌⊎◌, inl, inr, Bool, true, false, cond, List, [], ◌∷◌, length, max, Option}
use Rattle.std.proofs.Common.{Some, None, refl, ap, sym, ◌∙◌, arith}
use Rattle.std.specs.Prelude.{slice_get, if◌then◌else◌}
use Rattle.std.specs.List.{list_any}
use Rattle.std.proofs.lemmas.Bool.{true≢false, false≢true, or_left, or_right, or_cases, cases_lt}
use Rattle.std.proofs.lemmas.Option.{slice_get_within}
use Rattle.gq_model.specs.machine.Amounts.{Resource}
use Rattle.gq_model.specs.machine.Program.{text_eq}
use Rattle.gq_model.specs.machine.Scenario.{Component, Scenario, System, components, system}
use Rattle.gq_model.specs.rules.Use.{subject}
use Rattle.gq_model.specs.rules.Resolve.{after_of, leads_back, after_fault}
use Rattle.gq_model.proofs.Small_facts.{some_same, none_some, text_is, text_self}
use Rattle.gq_laws.specs.Names.{NamesDiffer}
use Rattle.gq_laws.proofs.quota_payment.Leaf_component_positions.{never_back, not_again}
use Rattle.gq_laws.proofs.verified_programs.Acyclic_chain_length.{Chain, chain_short}
use Rattle.gq_sizes.specs.Size.{is_named, own_by, least_caps, quantum_of, leaf_least, least_at, starts_after}
use Rattle.gq_sizes.proofs.Node_quanta_suffice.{after_there}

-- what the leaf of that name starts after, where no two have the same name
after_at : (cs : List Component) → ((i j : ℕ) (c d : Component) → slice_get cs i ≡ Some c → slice_get cs j ≡ Some d → c.node.name ≡ d.node.name → i ≡ j)
    → (y : ℕ) (d : Component) → slice_get cs y ≡ Some d → after_of d.node.name cs ≡ d.node.after
after_at [] differ y d e = absurd (none_some e)
after_at (b ∷ cs) differ zero d e =
    let same = some_same e in
    ap (λ (c : Component). cond (text_eq d.node.name c.node.name) c.node.after (after_of d.node.name cs)) same
    ∙ ap (λ t. cond t d.node.after (after_of d.node.name cs)) (text_self d.node.name)
after_at (b ∷ cs) differ (suc y) d e = by (text_eq d.node.name b.node.name) refl
    (after_at cs (λ i j c k f g same. fewer (differ (suc i) (suc j) c k f g same)) y d e)
  where
    fewer : {i j : ℕ} → suc i ≡ suc j → i ≡ j
    fewer f = omega arith

    by : (t : Bool) → text_eq d.node.name b.node.name ≡ t → after_of d.node.name cs ≡ d.node.after
        → cond t b.node.after (after_of d.node.name cs) ≡ d.node.after
    by true f further = absurd (first (differ zero (suc y) b d refl e (sym (text_is d.node.name b.node.name f))))
      where
        first : zero ≡ suc y → ⊥
        first f = omega arith
    by false f further = further

-- where none starts after a leaf, it needs its own
first_step : (own : ℕ) (f : Component → ℕ) (q : Option Component) → ((e : Component) → q ≡ Some e → ⊥) → max own (quantum_of f q) ≤ own
first_step own f None h = grind arith
first_step own f (Some e) h = absurd (h e refl)

next_step : (own : ℕ) (f g : Component → ℕ) (q : Option Component) → ((e : Component) → q ≡ Some e → f e ≤ g e)
    → max own (quantum_of f q) ≤ max own (quantum_of g q)
next_step own f g None h = omega arith
next_step own f g (Some e) h = let less = h e refl in grind (arith, less)

module _ (u : Scenario) (differ : NamesDiffer u) (fits : after_fault (components u) [] (components u) ≡ None) where
  -- the x-th leaf starts after the y-th
  abbrev After : ℕ → ℕ → Type 0
  After x y = (c : Component) × (d : Component) × (slice_get (components u) x ≡ Some c) × (slice_get (components u) y ≡ Some d)
      × (c.node.after ≡ Some d.node.name)

  abbrev Afters : ℕ → List ℕ → Type 0
  Afters x rest = Chain (length (components u)) After x rest

  -- names lead from a leaf to those after it in a chain
  leads : (m x y : ℕ) (rest : List ℕ) (c e : Component) → Afters x rest → slice_get (components u) x ≡ Some c → slice_get (components u) y ≡ Some e
      → list_any (eqb y) rest ≡ true → length rest ≤ m → leads_back m (components u) e.node.name c.node.after ≡ true
  leads m x y [] c e h at goal there short = absurd (false≢true there)
  leads zero x y (z ∷ rest) c e h at goal there short = absurd (omega (arith, short))
  leads (suc m) x y (z ∷ rest) c e h at goal there short =
      let d = h.0.1 in
      let after : c.node.after ≡ Some d.node.name = ap (λ (c : Component). c.node.after) (some_same (sym at ∙ h.0.2)) ∙ h.0.4 in
      ap (leads_back (suc m) (components u) e.node.name) after
      ∙ by (or_cases (eqb y z) (list_any (eqb y) rest) there)
      (λ further. leads m z y rest d e h.1 h.0.3 goal further (omega (arith, short)))
    where
      by : (eqb y z ≡ true) ⊎ (list_any (eqb y) rest ≡ true)
          → (list_any (eqb y) rest ≡ true → leads_back m (components u) e.node.name h.0.1.node.after ≡ true)
          → (text_eq h.0.1.node.name e.node.name || leads_back m (components u) e.node.name (after_of h.0.1.node.name (components u))) ≡ true
      by (inl same) go =
          or_left (text_eq h.0.1.node.name e.node.name) (leads_back m (components u) e.node.name (after_of h.0.1.node.name (components u)))
          (ap (text_eq h.0.1.node.name) (ap (λ (c : Component). c.node.name)
          (some_same (sym goal ∙ (ap (slice_get (components u)) (eqb-true y z same) ∙ h.0.3))))
          ∙ text_self h.0.1.node.name)
      by (inr further) go =
          or_right (text_eq h.0.1.node.name e.node.name) (leads_back m (components u) e.node.name (after_of h.0.1.node.name (components u)))
          (ap (leads_back m (components u) e.node.name) (after_at (components u) differ z h.0.1 h.0.3) ∙ go further)

  no_return : (x : ℕ) (rest : List ℕ) → Afters x rest → list_any (eqb x) rest ≡ true → length rest ≤ length (components u) → ⊥
  no_return x [] chain there short = false≢true there
  no_return x (z ∷ rest) chain there short =
      let c = chain.0.0 in
      let back = leads (length (components u)) x x (z ∷ rest) c c chain chain.0.2 chain.0.2 there short in
      let never = never_back (components u) [] (components u) fits x c chain.0.1.node.name chain.0.2 chain.0.4 in
      true≢false (sym back ∙ (ap (leads_back (length (components u)) (components u) c.node.name) chain.0.4 ∙ never))

  short_chain : (x : ℕ) (rest : List ℕ) → Afters x rest → length rest < length (components u)
  short_chain x rest h = chain_short (length (components u)) After (λ x z a. slice_get_within (components u) x a.0 a.2) no_return x rest h

  module _ (r : Resource) where
    abbrev all : System
    all = system u

    -- behind so many leaves that start after one another, no more numbers come
    settles : (n x : ℕ) (d : Component) (rest : List ℕ) → slice_get (components u) x ≡ Some d → Afters x rest → length (components u) ≤ suc (length rest + n)
        → leaf_least (suc n) r all d ≤ leaf_least n r all d
    settles zero x d rest at chain long =
        first_step (own_by (least_caps all) r (subject all d)) (leaf_least zero r all) (starts_after d.node.name (components u)) (λ e f.
        let y = after_there d.node.name (components u) e f in
        let short = short_chain y.0 (x ∷ rest) ((e, d, y.1, at, y.2), chain) in omega (arith, short, long))
    settles (suc n) x d rest at chain long =
        next_step (own_by (least_caps all) r (subject all d)) (leaf_least (suc n) r all) (leaf_least n r all) (starts_after d.node.name (components u)) (λ e f.
        let y = after_there d.node.name (components u) e f in
        settles n y.0 e (x ∷ rest) y.1 ((e, d, y.1, at, y.2), chain) (omega (arith, long)))

    -- who starts after a leaf is the one that is found
    after_found : (x : ℕ) (c : Component) (name : List ℕ) → slice_get (components u) x ≡ Some c → c.node.after ≡ Some name
        → starts_after name (components u) ≡ Some c
    after_found x c name at after = by (starts_after name (components u)) refl
      where
        never : (cs : List Component) (y : ℕ) → slice_get cs y ≡ Some c → starts_after name cs ≡ None → ⊥
        never [] y e f = none_some e
        never (b ∷ cs) zero e f =
            let is : is_named name b.node.after ≡ true =
            ap (is_named name) (ap (λ (c : Component). c.node.after) (some_same e) ∙ after) ∙ text_self name in
            none_some (sym f ∙ ap (λ t. if◌then◌else◌ t (Some b) (starts_after name cs)) is)
        never (b ∷ cs) (suc y) e f = or_none (is_named name b.node.after) f (never cs y e)
          where
            or_none : (t : Bool) → (if◌then◌else◌ t (Some b) (starts_after name cs)) ≡ None → (starts_after name cs ≡ None → ⊥) → ⊥
            or_none true g further = none_some (sym g)
            or_none false g further = further g

        by : (q : Option Component) → starts_after name (components u) ≡ q → q ≡ Some c
        by None f = absurd (never (components u) x at f)
        by (Some e) f =
            let y = after_there name (components u) e f in
            one y.0 y.1 y.2 (same_place y.0 y.1 y.2)
          where
            same_place : (y : ℕ) → slice_get (components u) y ≡ Some e → e.node.after ≡ Some name → y ≡ x
            same_place y there other = elim (cases_lt y x) [
              | inl less ↦ absurd (not_again (components u) [] (components u) fits y x e c name there at other after less)
              | inr more ↦ elim (cases_lt x y) [
                | inl less ↦ absurd (not_again (components u) [] (components u) fits x y c e name at there after other less)
                | inr most ↦ omega (arith, more, most)
              ]
            ]

            one : (y : ℕ) → slice_get (components u) y ≡ Some e → e.node.after ≡ Some name → y ≡ x → Some e ≡ Some c
            one y there other same = sym there ∙ ap (slice_get (components u)) same ∙ at

    -- a leaf needs no more than the one after which it starts
    pub after_least : (x y : ℕ) (c d : Component) → slice_get (components u) x ≡ Some c → slice_get (components u) y ≡ Some d → c.node.after ≡ Some d.node.name
        → least_at r all x ≤ least_at r all y
    after_least x y c d at there after = by (length (components u)) refl
      where
        by : (n : ℕ) → length (components u) ≡ n → least_at r all x ≤ least_at r all y
        by zero e = let less = slice_get_within (components u) x c at in absurd (omega (arith, less, e))
        by (suc m) e =
            let less = slice_get_within (components u) x c at in
            let rest = settles m x c [] at less (omega (arith, e)) in
            let found = after_found x c d.node.name at after in
            let f : quantum_of (leaf_least m r all) (starts_after d.node.name (components u)) ≡ leaf_least m r all c = ap (quantum_of (leaf_least m r all))
            found in
            let here : leaf_least m r all c ≤ leaf_least (suc m) r all d = grind (arith, f) in
            let a : least_at r all x ≡ leaf_least (suc m) r all c =
            ap (quantum_of (leaf_least (length (components u)) r all)) at ∙ ap (λ k. leaf_least k r all c) e in
            let b : least_at r all y ≡ leaf_least (suc m) r all d =
            ap (quantum_of (leaf_least (length (components u)) r all)) there ∙ ap (λ k. leaf_least k r all d) e in
            omega (arith, rest, here, a, b)
