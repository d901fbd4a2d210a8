-- The heap has no places for what is in sessions, so what a leaf has in use there is in its own slots.
use Rattle.std.proofs.Common.{◌≡◌, ℕ, zero, suc, inl, inr, Bool, true, false, cond, List, [], ◌∷◌, Option, Some, None, refl, ap, sym, ◌∙◌, subst, arith}
use Rattle.std.specs.Prelude.{slice_get, sum_by}
use Rattle.std.proofs.lemmas.Bool.Decides.{eqb_tells}
use Rattle.std.proofs.lemmas.List.Sums.{sum_by-cons}
use Rattle.gq_model.specs.declared.phase.Phase.{Phase}
use Rattle.gq_model.specs.declared.phase.Phase.TheVariants.{Pending, Running, Blocked, Serving, Handling, Exited}
use Rattle.gq_model.specs.declared.section.Section.TheVariants.{Main}
use Rattle.gq_model.specs.machine.Scenario.{Scenario, System, Component, system}
use Rattle.gq_model.specs.machine.World.{Session, Current, Leaf, World, joined, session_at, section_of}
use Rattle.gq_model.specs.machine.Sums.{places, slot_places, to_leaf}
use Rattle.gq_model.specs.rules.Flow.{bank_at, body, context, start_of}
use Rattle.gq_model.specs.rules.Kinds.{Kind, AbstractState, Subject, kind_places, no_kinds}
use Rattle.gq_model.specs.rules.Use.{subject}
use Rattle.gq_model.proofs.Small_facts.{some_same}
use Rattle.gq_laws.specs.Current_section_facts.{bank_kinds, current_section, section_if, within}
use Rattle.gq_laws.specs.Session_links.{Fits, stance, stance_in}
use Rattle.gq_laws.specs.Stands.{Stands}
use Rattle.gq_laws.specs.Typed.{CurrentMeets}
use Rattle.gq_laws.specs.Typing.{FitsService, IsInSection, StandsBy}
use Rattle.gq_laws.specs.internal.Verified_holdings.{IsBounded}
use Rattle.gq_laws.specs.internal.Uncounted.{uncounted}
use Rattle.gq_laws.proofs.held_resources.Own_slot_bounds.{goes_same, points_light}
use Rattle.gq_laws.proofs.remaining_work.Move_keeps_points.{point_here}
use Rattle.gq_laws.proofs.verified_programs.Heap_kinds.{bank_at_no_heap, bank_before_no_heap}
use Rattle.gq_laws.proofs.verified_programs.Kind_costs.{NoHeap, kinds_none, places_fit}

sum_none : {A : Type 0} (f : A → ℕ) (items : List A) → ((j : ℕ) (a : A) → slice_get items j ≡ Some a → f a ≡ 0) → sum_by f items ≡ 0
sum_none f [] h = refl
sum_none f (a ∷ rest) h =
    let here = h zero a refl in let further = sum_none f rest (λ j b e. h (suc j) b e) in omega (arith, here, further, sum_by-cons f a rest)

to_none : (x : ℕ) (f : Session → ℕ) (w : World) → ((j : ℕ) (s : Session) → session_at w j ≡ Some s → s.server ≡ x → f s ≡ 0)
    → sum_by (to_leaf x f) w.sessions ≡ 0
to_none x f w h = sum_none (to_leaf x f) w.sessions (λ j o e. by j o e)
  where
    by : (j : ℕ) (o : Option Session) → slice_get w.sessions j ≡ Some o → to_leaf x f o ≡ 0
    by j None e = refl
    by j (Some s) e = elim (eqb_tells s.server x) [ inl q ↦ ap (λ b. cond b (f s) 0) q.0 ∙ h j s (ap joined e) q.1 | inr q ↦ ap (λ b. cond b (f s) 0) q.0 ]

module _ (s : Scenario) (w : World) (h : Stands s w) (x : ℕ) (c : Component) (placed : slice_get (uncounted (system s)).components x ≡ Some c) (leaf : Leaf)
    (there : slice_get w.leaves x ≡ Some leaf) (k : ℕ) where
  abbrev u : System
  u = uncounted (system s)

  abbrev promised : ℕ → Option Kind
  promised = h.promised

  abbrev v : Subject
  v = subject u c

  abbrev InSection : Type 0
  InSection = IsInSection promised (IsBounded u) u w x c leaf leaf.phase (section_of leaf.current leaf.reacting)

  -- a leaf at which a session is current is in a section
  in_section : (g : Current) → leaf.current ≡ Some g → InSection
  in_section g e = by leaf.phase (h.typed.leaves x c leaf placed there)
      (subst (Fits leaf.phase) e (h.linked.fits x (stance leaf.phase leaf.current) (ap stance_in there)))
    where
      by : (p : Phase) → StandsBy promised (IsBounded u) u w x c leaf p → Fits p (Some g)
          → IsInSection promised (IsBounded u) u w x c leaf p (section_of leaf.current leaf.reacting)
      by Pending t f = t
      by Running t f = t
      by Blocked t f = t
      by Handling t f = t
      by Serving t f = absurd f
      by Exited t f = absurd f

  -- the current session has none
  current_light : (t : InSection) → sum_by (kind_places k) t.state.bank ≡ 0
  current_light t =
      let section = section_of leaf.current leaf.reacting in
      let same = goes_same u w x leaf.phase t.state t.next t.from in
      let here = point_here (λ (q : AbstractState). sum_by (kind_places k) q.bank) (context v section) t.next leaf.todo leaf.loops in
      let whole = (t.also c placed).0 (λ (q : AbstractState). sum_by (kind_places k) q.bank) in
      let none = points_light k promised (context v section) (start_of v section) (body v section) (bank_before_no_heap v section) in
      let stays = ap (sum_by (kind_places k)) same.1 in
      omega (arith, here, whole, none, stays)

  rests_light : (b : Bool) (l : ℕ) → NoHeap (cond b (bank_at v l) no_kinds)
  rests_light true l = bank_at_no_heap v l
  rests_light false l = bank_before_no_heap v Main

  -- nor has another session to the leaf
  session_light : (j : ℕ) (q : Session) → session_at w j ≡ Some q → q.server ≡ x → sum_by (slot_places k) q.slots ≡ 0
  session_light j q found serves = by leaf.current refl
    where
      rests : section_if j leaf.current ≡ None → sum_by (slot_places k) q.slots ≡ 0
      rests none =
          let f : FitsService promised u w j q = h.typed.sessions j q found in
          let r = f.rests c (ap (slice_get u.components) serves ∙ placed) (ap (λ y. current_section j (slice_get w.leaves y)) serves
          ∙ (ap (current_section j) there ∙ none)) in
          let fit = places_fit promised k q.slots (bank_kinds u c q) r.bank in
          let light = kinds_none promised k (bank_kinds u c q) (rests_light q.accepted q.level) in
          omega (arith, fit, light)

      at_current : (g : Current) → leaf.current ≡ Some g → g.session ≡ j → sum_by (slot_places k) q.slots ≡ 0
      at_current g e is =
          let t = in_section g e in
          let m = subst (CurrentMeets promised (within (context v (section_of leaf.current leaf.reacting)) leaf.loops) t.state.bank w) e t.meets.bank in
          let fit = places_fit promised k m.0.slots t.state.bank m.2.slots in
          let light = current_light t in
          let one = ap (λ (q : Session). sum_by (slot_places k) q.slots) (some_same (sym found ∙ (ap (session_at w) (sym is) ∙ m.1))) in
          omega (arith, fit, light, one)

      by : (o : Option Current) → leaf.current ≡ o → sum_by (slot_places k) q.slots ≡ 0
      by None e = rests (ap (section_if j) e)
      by (Some g) e = elim (eqb_tells g.session j) [
        | inl t ↦ at_current g e t.1
        | inr t ↦ rests (ap (section_if j) e ∙ ap (λ b. cond b (Some g.section) None) t.0)
      ]

  pub own_only : places w x leaf k ≡ sum_by (slot_places k) leaf.slots
  own_only = let none = to_none x (λ q. sum_by (slot_places k) q.slots) w session_light in omega (arith, none)
