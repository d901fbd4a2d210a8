-- Where no leaf can take a step, none is pending: it would start after another that is pending as well, and these lead to no cycle.
use Rattle.std.proofs.Common.{◌≡◌, ◌≢◌, ℕ, zero, suc, ◌≤◌, ◌||◌, eqb, eqb-true, ◌⊎◌, inl, inr, Bool, true, false, cond, List, [], ◌∷◌, length, Some}
use Rattle.std.proofs.Common.{refl, ap, sym, ◌∙◌, subst, arith}
use Rattle.std.specs.Prelude.{slice_get, is_some}
use Rattle.std.specs.List.{list_any}
use Rattle.gq_model.specs.machine.Program.{text_eq}
use Rattle.gq_model.specs.machine.Scenario.{Scenario, LeafNode, Nodes, End, Leaf_node, Init_node, Level, Component, components, system}
use Rattle.gq_model.specs.machine.World.{Leaf, World}
use Rattle.gq_model.specs.declared.phase.Phase.{Phase}
use Rattle.gq_model.specs.declared.phase.Phase.TheVariants.{Pending, Running, Blocked, Serving, Handling, Exited}
use Rattle.gq_model.specs.rules.Resolve.{leaf_child, sibling, after_of, leads_back}
use Rattle.gq_model.specs.machine.Rest.{runs, can_run}
use Rattle.gq_laws.specs.Names.{NamesDiffer}
use Rattle.gq_laws.specs.Session_links.{stance, stance_in}
use Rattle.gq_laws.specs.Shapes.{Each}
use Rattle.gq_model.proofs.Small_facts.{some_same, none_some, text_is, text_self, get_within}
use Rattle.gq_laws.proofs.step_shapes.Whole_worlds.{each_get}
use Rattle.gq_laws.proofs.quota_payment.Leaf_component_positions.{starts_after, never_back}
use Rattle.gq_laws.proofs.quota_payment.Routed_server_provides.{Among, Holds, holds_at, IsKnown, all_known}
use Rattle.gq_laws.proofs.verified_programs.Acyclic_chain_length.{Chain, chain_short}
use Rattle.gq_laws.specs.Leaf_phases.{Suits, serves}
use Rattle.gq_laws.proofs.progress.Lasting_world_invariant.{Lasts, afters_fit}
use Rattle.gq_laws.proofs.progress.No_blocked_deadlock.{stays, placed, never_blocked}
use Rattle.std.proofs.lemmas.Bool.{true≢false, false≢true, or_left, or_right, or_cases}
use Rattle.std.proofs.lemmas.Option.{slice_get_within}

-- WHERE A LEAF OF A NAME STANDS

child_among : (name : List ℕ) (nodes : Nodes) (n : LeafNode) → leaf_child name nodes ≡ Some n → Among n nodes × (n.name ≡ name)
child_among name End n e = absurd (none_some e)
child_among name (Leaf_node node rest) n e = by (text_eq name node.name) refl e (child_among name rest n)
  where
    by : (b : Bool) → text_eq name node.name ≡ b → cond b (Some node) (leaf_child name rest) ≡ Some n
        → (leaf_child name rest ≡ Some n → Among n rest × (n.name ≡ name)) → Among n (Leaf_node node rest) × (n.name ≡ name)
    by true f g further = (inl (some_same g), sym (text_is name node.name f ∙ ap (λ (n : LeafNode). n.name) (some_same g)))
    by false f g further = let r = further g in (inr r.0, r.1)
child_among name (Init_node node children rest) n e = let r = child_among name rest n e in (inr r.0, r.1)

sibling_held : (all : List Component) (name : List ℕ) (levels : List Level) (n : LeafNode) → Each (IsKnown all) levels → sibling name levels ≡ Some n
    → Holds n all × (n.name ≡ name)
sibling_held all name [] n known e = absurd (none_some e)
sibling_held all name (l ∷ above) n known e = let a = child_among name l.siblings n e in (known.0 n a.0, a.1)

-- what the leaf of that name starts after, where no two have the same name
after_at : (cs : List Component) → ((i j : ℕ) (c d : Component) → slice_get cs i ≡ Some c → slice_get cs j ≡ Some d → c.node.name ≡ d.node.name → i ≡ j)
    → (y : ℕ) (d : Component) → slice_get cs y ≡ Some d → after_of d.node.name cs ≡ d.node.after
after_at [] differ y d e = absurd (none_some e)
after_at (b ∷ cs) differ zero d e =
    let same = some_same e in
    ap (λ (c : Component). cond (text_eq d.node.name c.node.name) c.node.after (after_of d.node.name cs)) same
    ∙ ap (λ t. cond t d.node.after (after_of d.node.name cs)) (text_self d.node.name)
after_at (b ∷ cs) differ (suc y) d e = by (text_eq d.node.name b.node.name) refl
    (after_at cs (λ i j c k f g same. fewer (differ (suc i) (suc j) c k f g same)) y d e)
  where
    fewer : {i j : ℕ} → suc i ≡ suc j → i ≡ j
    fewer f = omega arith

    by : (t : Bool) → text_eq d.node.name b.node.name ≡ t → after_of d.node.name cs ≡ d.node.after
        → cond t b.node.after (after_of d.node.name cs) ≡ d.node.after
    by true f further = absurd (first (differ zero (suc y) b d refl e (sym (text_is d.node.name b.node.name f))))
      where
        first : zero ≡ suc y → ⊥
        first f = omega arith
    by false f further = further

-- CHAINS

module _ (s : Scenario) where
  -- the x-th leaf starts after the y-th
  abbrev After : ℕ → ℕ → Type 0
  After x y = (c : Component) × (d : Component) × (slice_get (components s) x ≡ Some c) × (slice_get (components s) y ≡ Some d)
      × (c.node.after ≡ Some d.node.name)

  abbrev Afters : ℕ → List ℕ → Type 0
  Afters x rest = Chain (length (components s)) After x rest

  module _ (differ : NamesDiffer s) where
    -- names lead from a leaf to those after it in a chain
    leads : (m x y : ℕ) (rest : List ℕ) (c e : Component) → Afters x rest → slice_get (components s) x ≡ Some c → slice_get (components s) y ≡ Some e
        → list_any (eqb y) rest ≡ true → length rest ≤ m → leads_back m (components s) e.node.name c.node.after ≡ true
    leads m x y [] c e h at goal there short = absurd (false≢true there)
    leads zero x y (z ∷ rest) c e h at goal there short = absurd (omega (arith, short))
    leads (suc m) x y (z ∷ rest) c e h at goal there short =
        let d = h.0.1 in
        let after : c.node.after ≡ Some d.node.name = ap (λ (c : Component). c.node.after) (some_same (sym at ∙ h.0.2)) ∙ h.0.4 in
        ap (leads_back (suc m) (components s) e.node.name) after
        ∙ by (or_cases (eqb y z) (list_any (eqb y) rest) there)
        (λ further. leads m z y rest d e h.1 h.0.3 goal further (omega (arith, short)))
      where
        by : (eqb y z ≡ true) ⊎ (list_any (eqb y) rest ≡ true)
            → (list_any (eqb y) rest ≡ true → leads_back m (components s) e.node.name h.0.1.node.after ≡ true)
            → (text_eq h.0.1.node.name e.node.name || leads_back m (components s) e.node.name (after_of h.0.1.node.name (components s))) ≡ true
        by (inl same) go =
            or_left (text_eq h.0.1.node.name e.node.name) (leads_back m (components s) e.node.name (after_of h.0.1.node.name (components s)))
            (ap (text_eq h.0.1.node.name) (ap (λ (c : Component). c.node.name)
            (some_same (sym goal ∙ (ap (slice_get (components s)) (eqb-true y z same) ∙ h.0.3))))
            ∙ text_self h.0.1.node.name)
        by (inr further) go =
            or_right (text_eq h.0.1.node.name e.node.name) (leads_back m (components s) e.node.name (after_of h.0.1.node.name (components s)))
            (ap (leads_back m (components s) e.node.name) (after_at (components s) differ z h.0.1 h.0.3) ∙ go further)

module _ (s : Scenario) (w : World) (h : Lasts s w) (idle : (x : ℕ) → can_run (system s) w x ≡ false) where
  no_return : (x : ℕ) (rest : List ℕ) → Afters s x rest → list_any (eqb x) rest ≡ true → length rest ≤ length (components s) → ⊥
  no_return x [] chain there short = false≢true there
  no_return x (z ∷ rest) chain there short =
      let c = chain.0.0 in
      let back = leads s h.stands.sound.formed.differ (length (components s)) x x (z ∷ rest) c c chain chain.0.2 chain.0.2 there short in
      let never = never_back (components s) [] (components s) (afters_fit s h.stands.sound) x c chain.0.1.node.name chain.0.2 chain.0.4 in
      true≢false (sym back ∙ (ap (leads_back (length (components s)) (components s) c.node.name) chain.0.4 ∙ never))

  abbrev IsPending : ℕ → Type 0
  IsPending x = (leaf : Leaf) × (slice_get w.leaves x ≡ Some leaf) × (leaf.phase ≡ Pending)

  -- the leaf before one that is pending is pending, where it does not run
  before_pending : (y : ℕ) (d : Component) (leaf : Leaf) → slice_get (components s) y ≡ Some d → serves d.node.provides d.node.signals ≡ false
      → slice_get w.leaves y ≡ Some leaf → leaf.phase ≢ Exited → (phase : Phase) → leaf.phase ≡ phase → IsPending y
  before_pending y d leaf at bare there live Pending e = (leaf, there, e)
  before_pending y d leaf at bare there live Running e = absurd (true≢false (ap (runs w y leaf) (sym e) ∙ stays s w h idle y d leaf at there))
  before_pending y d leaf at bare there live Blocked e =
      absurd (never_blocked s w h idle y (leaf.current, ap stance_in there ∙ ap (λ p. Some (stance p leaf.current)) e))
  before_pending y d leaf at bare there live Serving e =
      absurd (true≢false (sym (subst (Suits d.node.provides d.node.signals) e (h.ready.suits y d leaf at there)) ∙ bare))
  before_pending y d leaf at bare there live Handling e = absurd (true≢false (ap (runs w y leaf) (sym e) ∙ stays s w h idle y d leaf at there))
  before_pending y d leaf at bare there live Exited e = absurd (live e)

  next_pending : (x : ℕ) → IsPending x → (y : ℕ) × After s x y × IsPending y
  next_pending x p =
      let c = placed s w h idle x p.0 p.1 in
      let waits = h.ready.waits x c.0 p.0 c.1 p.1 p.2 in
      let name = waits.0 in
      let fits = (starts_after (components s) [] (components s) (afters_fit s h.stands.sound) x c.0 name c.1 waits.1).0 in
      let known = each_get (λ c. Each (IsKnown (components s)) c.levels) (components s) x c.0 (all_known s) c.1 in
      let held = sibling_held (components s) name c.0.levels fits.before known fits.there in
      let found = holds_at fits.before (components s) held.0 in
      let y = found.0 in
      let d = found.1 in
      let named : d.node.name ≡ name = ap (λ (n : LeafNode). n.name) found.3 ∙ held.1 in
      let bare : serves d.node.provides d.node.signals ≡ false =
      ap (λ (n : LeafNode). serves n.provides n.signals) found.3 ∙ (λ i. fits.before_provides i || fits.before_signals i) in
      let below = slice_get_within (components s) y d found.2 in
      let count = h.stands.whole.count in
      let leaf = get_within w.leaves y (omega (arith, below, count)) in (
        y,
        (c.0, d, c.1, found.2, waits.1 ∙ ap Some (sym named)),
        before_pending y d leaf.0 found.2 bare leaf.1 (waits.2 y d leaf.0 found.2 named leaf.1) leaf.0.phase refl,
      )

  pending_chain : (n x : ℕ) → IsPending x → (rest : List ℕ) × Afters s x rest × (length rest ≡ n)
  pending_chain zero x p =
      let below = slice_get_within w.leaves x p.0 p.1 in
      let count = h.stands.whole.count in ([], omega (arith, below, count), refl)
  pending_chain (suc n) x p =
      let m = next_pending x p in
      let r = pending_chain n m.0 m.2 in (m.0 ∷ r.0, (m.1, r.1), ap suc r.2)

  pub never_pending : (x : ℕ) (leaf : Leaf) → slice_get w.leaves x ≡ Some leaf → leaf.phase ≡ Pending → ⊥
  never_pending x leaf there pending =
      let r = pending_chain (length (components s)) x (leaf, there, pending) in
      let short = chain_short (length (components s)) (After s) (λ x z a. slice_get_within (components s) x a.0 a.2) no_return x r.0 r.1 in
      let long = r.2 in omega (arith, short, long)
