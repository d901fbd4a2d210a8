-- What a leaf's own slots hold and have lent, and the heap's places that it has in use, are within what the points of `main` have.
use Rattle.std.proofs.Common.{◌≡◌, ◌≢◌, ℕ, zero, suc, ◌≤◌, inl, inr, cond, Bool, true, false, List, [], ◌∷◌, ◌++◌, Option, Some, None, Ok, Err, refl, ap, sym}
use Rattle.std.proofs.Common.{◌∙◌, subst, arith}
use Rattle.std.specs.Prelude.{slice_get, sum_by}
use Rattle.std.proofs.lemmas.Bool.Decides.{eqb_tells}
use Rattle.std.proofs.lemmas.List.Sums.{sum_by-cons}
use Rattle.gq_model.specs.machine.Amounts.{Resource}
use Rattle.gq_model.specs.machine.Lists.{greatest}
use Rattle.gq_model.specs.declared.phase.Phase.{Phase}
use Rattle.gq_model.specs.declared.phase.Phase.TheVariants.{Pending, Running, Blocked, Serving, Handling, Exited}
use Rattle.gq_model.specs.declared.section.Section.{Section}
use Rattle.gq_model.specs.declared.section.Section.TheVariants.{Main, Opening, Upgrading, Calling, Closing, Reacting}
use Rattle.gq_model.specs.machine.Program.{Statements, Done, Do, If, Loop}
use Rattle.gq_model.specs.machine.Scenario.{System, Component}
use Rattle.gq_model.specs.machine.World.{Slot, Empty, Waiting, Bytes, Pool, Link, In_leaf, Session, Current, Leaf, World, joined, session_at, slot_at}
use Rattle.gq_model.specs.machine.World.{leaf_slot}
use Rattle.gq_model.specs.machine.Sums.{slot_places, to_leaf, places}
use Rattle.gq_model.specs.rules.Kinds.{Kind, AbstractState, Subject, Context, inside, no_kinds, kind_places, kinds_cost}
use Rattle.gq_model.specs.machine.Sections.{is_start_section}
use Rattle.gq_model.specs.rules.Rules.{Judged, judged}
use Rattle.gq_model.specs.rules.Flow.{at, state_or, flow, points, context, body, start_of, bank_at}
use Rattle.gq_laws.specs.Current_section_facts.{section_if, current_section, within, bank_kinds}
use Rattle.gq_model.specs.rules.Use.{subject}
use Rattle.gq_laws.specs.Shapes.{Each}
use Rattle.gq_laws.specs.Session_links.{Waits, Belongs, Stance, stance_in, naming_in, links, IsLinkedWorld}
use Rattle.gq_laws.specs.Typed.{CurrentMeets}
use Rattle.gq_laws.specs.Typing.{GoesOnFrom, PromisesSessions, FitsService, IsInSection, IsTypedBy}
use Rattle.gq_laws.specs.Reply_stances.{once_replied}
use Rattle.gq_laws.specs.internal.Verified_holdings.{main_points, IsBounded, own_part}
use Rattle.gq_model.proofs.Small_facts.{some_same}
use Rattle.gq_laws.proofs.verified_programs.Kind_costs.{NoClose, NoHeap, each_found, linked_no_close, slots_cost, places_fit, kinds_none}
use Rattle.gq_laws.proofs.verified_programs.Heap_kinds.{judged_no_heap, reached_no_heap, bank_at_no_heap, bank_before_no_heap}
use Rattle.gq_laws.proofs.verified_programs.Own_costs.{own_after_under, own_in_section}
use Rattle.gq_laws.proofs.remaining_work.Move_keeps_points.{greatest_append, point_here}
use Rattle.gq_laws.proofs.verified_programs.Sure_system_facts.{IsSure}

-- STATES

-- the reply to a call changes no slot
once_same : (most : ℕ) (section : Section) (state : AbstractState)
    → ((once_replied most section state).own ≡ state.own) × ((once_replied most section state).bank ≡ state.bank)
once_same most Main state = (refl, refl)
once_same most Opening state = (refl, refl)
once_same most (Upgrading l) state = (refl, refl)
once_same most (Calling l) state = (refl, refl)
once_same most (Closing l) state = (refl, refl)
once_same most (Reacting i) state = (refl, refl)

-- a leaf goes on with the slots with which it stands
pub goes_same : (system : System) (w : World) (x : ℕ) (phase : Phase) (state next : AbstractState) → GoesOnFrom system w x phase state next
    → (next.own ≡ state.own) × (next.bank ≡ state.bank)
goes_same system w x Pending state next e = (ap (λ (s : AbstractState). s.own) e, ap (λ (s : AbstractState). s.bank) e)
goes_same system w x Running state next e = (ap (λ (s : AbstractState). s.own) e, ap (λ (s : AbstractState). s.bank) e)
goes_same system w x Blocked state next a =
    let o = once_same _ a.section state in (ap (λ (s : AbstractState). s.own) a.is ∙ o.0, ap (λ (s : AbstractState). s.bank) a.is ∙ o.1)
goes_same system w x Serving state next e = (ap (λ (s : AbstractState). s.own) e, ap (λ (s : AbstractState). s.bank) e)
goes_same system w x Handling state next e = (ap (λ (s : AbstractState). s.own) e, ap (λ (s : AbstractState). s.bank) e)
goes_same system w x Exited state next e = (ap (λ (s : AbstractState). s.own) e, ap (λ (s : AbstractState). s.bank) e)

is_main : (section : Section) → is_start_section section ≡ true → section ≡ Main
is_main Main e = refl
is_main Opening e = absurd cc
is_main (Upgrading l) e = absurd cc
is_main (Calling l) e = absurd cc
is_main (Closing l) e = absurd cc
is_main (Reacting i) e = absurd cc

-- POINTS WITHOUT PLACES OF THE HEAP

module _ (k : ℕ) where
  abbrev in_bank : AbstractState → ℕ
  in_bank s = sum_by (kind_places k) s.bank

  judged_light : (c : Context) (s : AbstractState) (i : Judged) → ((t : AbstractState) → i ≡ Ok t → NoHeap t.bank) → NoHeap s.bank → NoHeap
      (state_or s (at 1 i)).bank
  judged_light c s (Ok t) next h = next t refl
  judged_light c s (Err rule) next h = h

  -- where a list starts without any in the bank, none of its points has one
  pub points_light : (promised : ℕ → Option Kind) (c : Context) (s : AbstractState) (todo : Statements) → NoHeap s.bank → greatest in_bank (points c s todo) ≡ 0
  points_light promised c s Done h = let here = kinds_none promised k s.bank h in omega (arith, here)
  points_light promised c s (Do i rest) h =
      let here = kinds_none promised k s.bank h in
      let further = points_light promised c (state_or s (at 1 (judged c s i))) rest (judged_light c s (judged c s i) (λ t e. judged_no_heap c s t i e h) h) in
      omega (arith, here, further)
  points_light promised c s (If arm other rest) h =
      let t : AbstractState = record s { bounds = [] } in
      let here = kinds_none promised k s.bank h in
      let first = points_light promised c t arm h in
      let second = points_light promised c t other h in
      let further = points_light promised c (state_or t (flow c t arm)) rest (reached_no_heap c t arm h) in
      let arms = greatest_append in_bank (points c t arm) (points c t other) in
      let whole = greatest_append in_bank (points c t arm ++ points c t other) (points c (state_or t (flow c t arm)) rest) in
      omega (arith, here, first, second, further, arms, whole)
  points_light promised c s (Loop n inner rest) h =
      let here = kinds_none promised k s.bank h in
      let first = points_light promised (inside c n) s inner h in
      let further = points_light promised c s rest h in
      let whole = greatest_append in_bank (points (inside c n) s inner) (points c s rest) in
      omega (arith, here, first, further, whole)

-- SUMS OF NONE

sum_none : {A : Type 0} (f : A → ℕ) (items : List A) → ((j : ℕ) (a : A) → slice_get items j ≡ Some a → f a ≡ 0) → sum_by f items ≡ 0
sum_none f [] h = refl
sum_none f (a ∷ rest) h =
    let here = h zero a refl in let further = sum_none f rest (λ j b e. h (suc j) b e) in omega (arith, here, further, sum_by-cons f a rest)

-- no session to the leaf has any, where none that is there has
to_none : (x : ℕ) (f : Session → ℕ) (w : World) → ((j : ℕ) (s : Session) → session_at w j ≡ Some s → s.server ≡ x → f s ≡ 0)
    → sum_by (to_leaf x f) w.sessions ≡ 0
to_none x f w h = sum_none (to_leaf x f) w.sessions (λ j o e. by j o e)
  where
    by : (j : ℕ) (o : Option Session) → slice_get w.sessions j ≡ Some o → to_leaf x f o ≡ 0
    by j None e = refl
    by j (Some s) e = elim (eqb_tells s.server x) [ inl q ↦ ap (λ b. cond b (f s) 0) q.0 ∙ h j s (ap joined e) q.1 | inr q ↦ ap (λ b. cond b (f s) 0) q.0 ]

-- LEAVES

module _ (promised : ℕ → Option Kind) (system : System) (sure : IsSure system) (w : World) (t : IsTypedBy promised (IsBounded system) system w) (x : ℕ)
    (c : Component) (at_place : slice_get system.components x ≡ Some c) where
  abbrev v : Subject
  v = subject system c

  module _ (leaf : Leaf) (phase : Phase) (section : Section) (s : IsInSection promised (IsBounded system) system w x c leaf phase section) where
    same : (s.next.own ≡ s.state.own) × (s.next.bank ≡ s.state.bank)
    same = goes_same system w x phase s.state s.next s.from

    -- no number of the own kinds is greater than at the points of `main`
    pub own_under : (g : List Kind → ℕ) → g s.state.own ≤ greatest (λ (u : AbstractState). g u.own) (main_points v)
    own_under g = by (is_start_section section) refl
      where
        by : (b : Bool) → is_start_section section ≡ b → g s.state.own ≤ greatest (λ (u : AbstractState). g u.own) (main_points v)
        by true e =
            let here = point_here (λ (u : AbstractState). g u.own) (context v section) s.next leaf.todo leaf.loops in
            let whole = (s.also c at_place).0 (λ (u : AbstractState). g u.own) in
            let main = ap (λ q. greatest (λ (u : AbstractState). g u.own) (points (context v q) (start_of v q) (body v q))) (is_main section e) in
            let stays = ap g same.0 in
            omega (arith, here, whole, main, stays)
        by false e =
            let outside = ap g (own_in_section v section s.next s.end leaf.todo leaf.loops e s.whole s.goes_on) in
            let after = own_after_under g v (sure.faultless x c at_place) in
            let stays = ap g same.0 in
            omega (arith, outside, after, stays)

    -- so are what its own slots hold and have lent
    pub own_bounded : Each (NoClose w) leaf.slots → (r : Resource) → own_part r w leaf ≤ greatest (λ (u : AbstractState). kinds_cost r u.own) (main_points v)
    own_bounded each r =
        let cost = slots_cost r promised w t.reports leaf.slots s.state.own s.meets.own each in let under = own_under (kinds_cost r) in omega
        (arith, cost, under)

    -- and the places of the heap that they have
    pub own_places : (k : ℕ) → sum_by (slot_places k) leaf.slots ≤ greatest (λ (u : AbstractState). sum_by (kind_places k) u.own) (main_points v)
    own_places k = let fit = places_fit promised k leaf.slots s.state.own s.meets.own in let under = own_under (sum_by (kind_places k)) in
        omega (arith, fit, under)

    -- the current session has none
    current_light : (k : ℕ) → sum_by (kind_places k) s.state.bank ≡ 0
    current_light k =
        let here = point_here (in_bank k) (context v section) s.next leaf.todo leaf.loops in
        let whole = (s.also c at_place).0 (in_bank k) in
        let none = points_light k promised (context v section) (start_of v section) (body v section) (bank_before_no_heap v section) in
        let stays = ap (sum_by (kind_places k)) same.1 in
        omega (arith, here, whole, none, stays)

    rests_light : (b : Bool) (l : ℕ) → NoHeap (cond b (bank_at v l) no_kinds)
    rests_light true l = bank_at_no_heap v l
    rests_light false l = bank_before_no_heap v Main

    module _ (there : slice_get w.leaves x ≡ Some leaf) (k : ℕ) where
      -- nor has another session to the leaf
      session_light : (j : ℕ) (u : Session) → session_at w j ≡ Some u → u.server ≡ x → sum_by (slot_places k) u.slots ≡ 0
      session_light j u found serves = by leaf.current refl
        where
          rests : section_if j leaf.current ≡ None → sum_by (slot_places k) u.slots ≡ 0
          rests none =
              let f : FitsService promised system w j u = t.sessions j u found in
              let r = f.rests c (ap (slice_get system.components) serves ∙ at_place) (ap (λ y. current_section j (slice_get w.leaves y)) serves
              ∙ (ap (current_section j) there ∙ none)) in
              let fit = places_fit promised k u.slots (bank_kinds system c u) r.bank in
              let light = kinds_none promised k (bank_kinds system c u) (rests_light u.accepted u.level) in
              omega (arith, fit, light)

          at_current : (g : Current) → leaf.current ≡ Some g → g.session ≡ j → sum_by (slot_places k) u.slots ≡ 0
          at_current g e is =
              let m = subst (CurrentMeets promised (within (context v section) leaf.loops) s.state.bank w) e s.meets.bank in
              let fit = places_fit promised k m.0.slots s.state.bank m.2.slots in
              let light = current_light k in
              let one = ap (λ (q : Session). sum_by (slot_places k) q.slots) (some_same (sym found ∙ (ap (session_at w) (sym is) ∙ m.1))) in
              omega (arith, fit, light, one)

          by : (o : Option Current) → leaf.current ≡ o → sum_by (slot_places k) u.slots ≡ 0
          by None e = rests (ap (section_if j) e)
          by (Some g) e =
              elim (eqb_tells g.session j) [
                | inl q ↦ at_current g e q.1
                | inr q ↦ rests (ap (section_if j) e ∙ ap (λ b. cond b (Some g.section) None) q.0)
              ]

      -- so the places that it has in use are within what the points of `main` have
      pub places_bounded : places w x leaf k ≤ greatest (λ (u : AbstractState). sum_by (kind_places k) u.own) (main_points v)
      places_bounded =
          let own = own_places k in let none = to_none x (λ q. sum_by (slot_places k) q.slots) w session_light in omega (arith, own, none)

-- SLOTS THAT WAIT

-- where those of a leaf's own slots that wait do not wait for a close, none does
pub no_close_each : (promised : ℕ → Option Kind) (system : System) (w : World) → IsLinkedWorld system w → PromisesSessions promised w → (x : ℕ) (leaf : Leaf)
    → slice_get w.leaves x ≡ Some leaf
    → ((i k : ℕ) → slot_at w (In_leaf x i) ≡ Some (Waiting k) → NoClose w (Waiting k)) → Each (NoClose w) leaf.slots
no_close_each promised system w h reports x leaf there waits = each_found (NoClose w) leaf.slots (λ i slot e. by i slot (ap (λ o. leaf_slot o i) there ∙ e))
  where
    by : (i : ℕ) (slot : Slot) → slot_at w (In_leaf x i) ≡ Some slot → NoClose w slot
    by i Empty e = tt
    by i (Bytes form n bytes) e = tt
    by i (Pool n entries) e = tt
    by i (Link k) e = linked_no_close promised system w h reports (In_leaf x i) k e
    by i (Waiting k) e = waits i k e

-- a leaf of which an own slot waits is blocked
pub waits_blocked : (system : System) (w : World) → IsLinkedWorld system w → (x i k : ℕ) (leaf : Leaf) → slice_get w.leaves x ≡ Some leaf
    → slot_at w (In_leaf x i) ≡ Some (Waiting k) → leaf.phase ≡ Blocked
waits_blocked system w h x i k leaf there e =
    let n = h.named (In_leaf x i) (Waits k) (ap naming_in e) in
    let waits = h.waits k n.0 n.1 (ap (links w).slots n.2 ∙ ap naming_in e) in
    let client : x ≡ n.0.client = subst (λ q. Belongs (links w) q n.0.client) n.2 (h.belongs k n.0 n.1) in
    ap (λ (u : Stance). u.phase) (some_same (sym (ap stance_in there) ∙ (ap (links w).stances client ∙ waits.1)))

-- so none of a leaf that is not blocked waits for a close
pub no_close_awake : (promised : ℕ → Option Kind) (system : System) (w : World) → IsLinkedWorld system w → PromisesSessions promised w → (x : ℕ) (leaf : Leaf)
    → slice_get w.leaves x ≡ Some leaf → leaf.phase ≢ Blocked → Each (NoClose w) leaf.slots
no_close_awake promised system w h reports x leaf there awake =
    no_close_each promised system w h reports x leaf there (λ i k e. absurd (awake (waits_blocked system w h x i k leaf there e)))
