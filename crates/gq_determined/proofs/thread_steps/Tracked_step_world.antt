-- What is tracked fits the world after a step, too.
use Rattle.std.proofs.Common.{◌≡◌, ◌≢◌, ◌⊎◌, ℕ, suc, ◌==◌, ◌||◌, inl, inr, Bool, true, false, Option, Some, None, Ok, refl, ap, sym, ◌∙◌, subst}
use Rattle.std.specs.Prelude.{is_some, option_map, slice_get}
use Rattle.gq_model.specs.machine.Step.{first_signal}
use Rattle.gq_model.specs.declared.phase.Phase.{Phase}
use Rattle.gq_model.specs.declared.phase.Phase.TheVariants.{Pending, Running, Blocked, Serving, Handling, Exited}
use Rattle.gq_model.specs.declared.program.OperandSlot.{OperandSlot}
use Rattle.gq_model.specs.declared.program.OperandSlot.TheVariants.{Own, Shared, Object}
use Rattle.gq_model.specs.machine.Scenario.{System, Component}
use Rattle.gq_model.specs.machine.World.{Waiting, SlotId, In_leaf, In_session, In_object, Session, Current, Leaf, World, session_at, slot_at, slot_id_of}
use Rattle.gq_model.specs.machine.Doing.{Doing, Event}
use Rattle.gq_model.specs.machine.Requests.{free_place}
use Rattle.gq_model.proofs.Small_facts.{none_some, some_same, equal_self}
use Rattle.std.proofs.lemmas.Bool.{true≢false}
use Rattle.std.proofs.lemmas.Bool.Decides.{eqb_tells}
use Rattle.gq_laws.specs.Session_links.{Waits, naming_in, outline, outline_in, stance, stance_in, links, Belongs, Fits, IsLinkedWorld}
use Rattle.gq_laws.proofs.session_links.Asked_request_changes.{same_phase, same_current}
use Rattle.gq_laws.proofs.Outside_step_untouched.{outlined}
use Rattle.gq_determined.specs.internal.Threads.{is_unshared, Tracked, thread_by, anew, stepped_to, is_active, works, seen, Accepts}
use Rattle.gq_determined.proofs.passing_threads.Kept_by_steps.{IsNamed}
use Rattle.gq_determined.proofs.regions.Outside_region_kept.{OursBy, IsOld, IsNew, IsElse, current_of}
use Rattle.gq_determined.proofs.thread_positions.Single_thread_position.{root_at, IsByCurrent, AreOpened, IsPlaced, IsTracked}
use Rattle.gq_laws.proofs.verified_programs.Use_chains.{Uses}
use Rattle.gq_determined.proofs.thread_steps.Own_steps.{anew_else, anew_here, not_free}
use Rattle.gq_determined.proofs.thread_steps.Thread_step_frame.{accepts_or_not, active_works, seen_active, IsDone, thread_new}

-- an operand that names a session's slot names one of the current session
pub named_session : (x : ℕ) (current : Option Current) (place : OperandSlot) (j b : ℕ) → slot_id_of x current place ≡ Some (In_session j b)
    → (q : Current) × (current ≡ Some q) × (q.session ≡ j)
named_session x current (Own i) j b e = absurd (ne (some_same e))
  where
    ne : In_leaf x i ≡ In_session j b → ⊥
    ne e = cc
named_session x None (Shared i) j b e = absurd (none_some e)
named_session x (Some q) (Shared i) j b e = (q, refl, number (some_same e))
  where
    number : In_session q.session i ≡ In_session j b → q.session ≡ j
    number e = cc
named_session x None Object j b e = absurd (none_some e)
named_session x (Some q) Object j b e = absurd (ne (some_same e))
  where
    ne : In_object q.session ≡ In_session j b → ⊥
    ne e = cc

-- what is current at a leaf, by what it is seen to have
pub same_currents : (o p : Option Leaf) → option_map current_of o ≡ option_map current_of p → (phase : Phase) (current : Option Current)
    → stance_in o ≡ Some (stance phase current)
    → (l : Leaf) × (p ≡ Some l) × (l.current ≡ current)
same_currents None p e phase current at = absurd (none_some at)
same_currents (Some o) None e phase current at = absurd (none_some (sym e))
same_currents (Some o) (Some l) e phase current at = (l, refl, sym (some_same e) ∙ same_current at)

pub leaf_of : (o : Option Leaf) (phase : Phase) (current : Option Current) → stance_in o ≡ Some (stance phase current)
    → (l : Leaf) × (o ≡ Some l) × (l.phase ≡ phase) × (l.current ≡ current)
leaf_of None phase current at = absurd (none_some at)
leaf_of (Some l) phase current at = (l, refl, same_phase at, same_current at)

module _ (u : System) (g : Tracked) (t : IsPlaced u g) (i x : ℕ) (component : Component) (a : Leaf) (there : slice_get g.world.leaves x ≡ Some a) where
  abbrev d : Doing
  d = record { system = u; world = g.world; x = x; component = component; leaf = record a { steps = suc a.steps } }

  abbrev k0 : ℕ
  k0 = free_place g.world.sessions

  abbrev root : ℕ → ℕ
  root = anew g.root k0 i

  abbrev c : ℕ → Bool
  c y = works g i y || y == x

  -- what the step may change
  abbrev pub Ours : SlotId → Type 0
  Ours = OursBy d i g.own root

  -- the thread has its own leaf; a leaf that takes a request and is not its own is the thread's; and clients use their servers
  module _ (new : World) (event : Event) (done : IsDone u g t i x component a there new)
      (uses : (k : ℕ) (s : Session) → session_at new k ≡ Some s → Uses u s.client s.server) (lives : g.own i ≡ i)
      (taken : Accepts a → g.own x ≢ x → g.own x ≡ i) where
    abbrev g_new : Tracked
    g_new = stepped_to g x i (Ok (new, event))

    linked : IsLinkedWorld u new
    linked = done.linked

    rest : IsElse d i g.own root c Ours new
    rest = done.rest

    same_root : (k : ℕ) (s : Session) → session_at g.world k ≡ Some s → root k ≡ g.root k
    same_root k s at = anew_else g.root k0 i k (not_free g.world k s at)

    current_there : (q : Current) → a.current ≡ Some q → (s : Session) × (session_at g.world q.session ≡ Some s) × (s.server ≡ x)
    current_there q at =
        let m = t.linked.handles x a.phase q (ap stance_in there ∙ ap (λ o. Some (stance a.phase o)) at) in
        let s = outlined (session_at g.world q.session) m.0 m.1 in
        (s.0, s.1, ap (λ (s : Session). s.server) s.2 ∙ m.2)

    -- a slot that was there is in the region where it was
    kept : (q : SlotId) (client : ℕ) → Belongs (links g.world) q client → root_at g.own root q ≡ root_at g.own g.root q
    kept (In_leaf y b) client r = refl
    kept (In_session j b) client r = let p = outlined (session_at g.world j) r.0 r.1 in same_root j p.0 p.1
    kept (In_object j) client r = absurd r

    pub kept_old : (k : ℕ) (s : Session) (o : IsOld d i g.own root c Ours k s) → root_at g.own root s.slot_id ≡ root_at g.own g.root s.slot_id
    kept_old k s o = subst (λ q. root_at g.own root q ≡ root_at g.own g.root q) (sym o.slot_id)
        (kept o.old.slot_id o.old.client (t.linked.belongs k (outline o.old) (ap outline_in o.there)))

    pub kept_new : (q : SlotId) (client : ℕ) → IsNamed d q → Belongs (links new) q client → root_at g.own root q ≡ root_at g.own g.root q
    kept_new (In_leaf y b) client named r = refl
    kept_new (In_session j b) client named r =
        let q = named_session x a.current named.0 j b named.1 in
        let m = current_there q.0 q.1 in
        same_root j m.0 (ap (session_at g.world) (sym q.2) ∙ m.1)
    kept_new (In_object j) client named r = absurd r

    pub fresh : (q : SlotId) → Ours q → root_at g.own root q ≡ i
    fresh (In_leaf y b) ours = ours.0
    fresh (In_session j b) ours = ours
    fresh (In_object j) ours = ours

    below : (k : ℕ) (s : Session) → session_at new k ≡ Some s → root k ≡ root_at g.own root s.slot_id
    below k s at = elim (rest.slot_ids k s at) [
      | inl o ↦
          same_root k o.old o.there
          ∙ (t.below k o.old o.there ∙ (ap (root_at g.own g.root) (sym o.slot_id) ∙ sym (kept_old k s o)))
      | inr o ↦ ap root o.free ∙ (anew_here g.root k0 i ∙ sym (fresh s.slot_id o.ours))
    ]

    -- the client of a session that waits
    client_of : (w : World) → IsLinkedWorld u w → (q : SlotId) (k : ℕ) → slot_at w q ≡ Some (Waiting k)
        → (y : ℕ) × Belongs (links w) q y × ((current : Option Current) × ((links w).stances y ≡ Some (stance Blocked current)))
    client_of w linked q k at =
        let m = linked.named q (Waits k) (ap naming_in at) in
        let slot_id = m.2 in (
          m.0.client,
          subst (λ q. Belongs (links w) q m.0.client) slot_id (linked.belongs k m.0 m.1),
          linked.waits k m.0 m.1 (ap (links w).slots slot_id ∙ ap naming_in at),
        )

    not_x : (y : ℕ) (current : Option Current) → (links g.world).stances y ≡ Some (stance Blocked current) → y ≢ x
    not_x y current at e = done.active (same_phase (sym (ap stance_in there) ∙ (ap (links g.world).stances (sym e) ∙ at)))

    -- at a leaf that waits as it did the same is current
    current_before : (y : ℕ) (was : Option Current) → (links g.world).stances y ≡ Some (stance Blocked was) → (phase : Phase) (current : Option Current)
        → (links new).stances y ≡ Some (stance phase current) → current ≡ was
    current_before y was stood phase current at =
        let l = same_currents (slice_get new.leaves y) (slice_get g.world.leaves y) (rest.currents y (not_x y was stood)) phase current at in
        sym l.2 ∙ same_current (sym (ap stance_in l.1) ∙ stood)

    -- the leaf that took the step, where it waits now
    current_now : (current phase_current : Option Current) (phase : Phase) → (links new).stances x ≡ Some (stance Blocked current)
        → (links new).stances x ≡ Some (stance phase phase_current) → phase_current ≡ a.current
    current_now current other phase at is =
        let l = leaf_of (slice_get new.leaves x) Blocked current at in
        sym (same_current (sym (ap stance_in l.1) ∙ is)) ∙ rest.blocked l.0 l.1 l.2

    waits_leaf : (y b k : ℕ) → slot_at new (In_leaf y b) ≡ Some (Waiting k) → IsByCurrent g.own new (In_leaf y b)
    waits_leaf y b k at phase current is shared = elim (rest.waits (In_leaf y b) k at) [
      | inl old ↦
          let m = client_of g.world t.linked (In_leaf y b) k old in
          let stood = ap (links g.world).stances m.1 ∙ m.2.1 in
          current_before y m.2.0 stood phase current is ∙ t.waits (In_leaf y b) k old Blocked m.2.0 stood shared
      | inr o ↦
          let m = client_of new linked (In_leaf y b) k at in
          let here : y ≡ x = o.1.1 in
          current_now m.2.0 current phase (ap (links new).stances (sym here ∙ m.1) ∙ m.2.1) (ap (links new).stances (sym here) ∙ is) ∙ o.1.2 shared
    ]

    waits_session : (j b k : ℕ) → slot_at new (In_session j b) ≡ Some (Waiting k) → IsByCurrent g.own new (In_session j b)
    waits_session j b k at s there_s phase current is = elim (rest.waits (In_session j b) k at) [
      | inl old ↦
          let m = client_of g.world t.linked (In_session j b) k old in
          let p = outlined (session_at g.world j) m.1.0 m.1.1 in
          let server : s.server ≡ p.0.server = server_same p.0 p.1 in
          let client : p.0.server ≡ m.0 = ap (λ (s : Session). s.server) p.2 ∙ m.1.3 in
          let stood = ap (links g.world).stances client ∙ m.2.1 in
          let q = t.waits (In_session j b) k old p.0 p.1 Blocked m.2.0 stood in
          (q.0, current_before p.0.server m.2.0 stood phase current (ap (links new).stances (sym server) ∙ is) ∙ q.1, q.2)
      | inr o ↦
          let m = client_of new linked (In_session j b) k at in
          let p = outlined (session_at new j) m.1.0 m.1.1 in
          let same : p.0 ≡ s = some_same (sym p.1 ∙ there_s) in
          let client : s.server ≡ m.0 = ap (λ (s : Session). s.server) (sym same) ∙ (ap (λ (s : Session). s.server) p.2 ∙ m.1.3) in
          let q = named_session x a.current o.0.0 j b o.0.1 in
          let r = current_there q.0 q.1 in
          let here : s.server ≡ x = server_same r.0 (ap (session_at g.world) (sym q.2) ∙ r.1) ∙ r.2 in (
            q.0,
            current_now m.2.0 current phase (ap (links new).stances (sym here ∙ client) ∙ m.2.1) (ap (links new).stances (sym here) ∙ is) ∙ q.1,
            q.2,
          )
    ]
      where
        server_same : (p : Session) → session_at g.world j ≡ Some p → s.server ≡ p.server
        server_same p there_p = elim (rest.slot_ids j s there_s) [
          | inl o ↦ o.server ∙ ap (λ (s : Session). s.server) (some_same (sym o.there ∙ there_p))
          | inr o ↦ absurd (not_free g.world j p there_p o.free)
        ]

    waits : (q : SlotId) (k : ℕ) → slot_at new q ≡ Some (Waiting k) → IsByCurrent g.own new q
    waits (In_leaf y b) k at = waits_leaf y b k at
    waits (In_session j b) k at = waits_session j b k at
    waits (In_object j) k at = tt

    -- WHOSE SESSIONS AND LEAVES ARE

    lives_on : (k : ℕ) (s : Session) → session_at new k ≡ Some s → g.own (root k) ≡ root k
    lives_on k s at = elim (rest.slot_ids k s at) [
      | inl o ↦ let same = same_root k o.old o.there in ap g.own same ∙ (t.lives k o.old o.there ∙ sym same)
      | inr o ↦ let same : root k ≡ i = ap root o.free ∙ anew_here g.root k0 i in ap g.own same ∙ (lives ∙ sym same)
    ]

    -- a leaf in `main`
    main : (y : ℕ) (phase : Phase) → (links new).stances y ≡ Some (stance phase None) → is_active phase ≡ true → g.own y ≡ y
    main y phase at act = by (c y) refl
      where
        l : (l : Leaf) × (slice_get new.leaves y ≡ Some l) × (l.phase ≡ phase) × (l.current ≡ None)
        l = leaf_of (slice_get new.leaves y) phase None at

        seen_back : (o p : Option Leaf) (l : Leaf) → o ≡ Some l → option_map seen o ≡ option_map seen p → (m : Leaf) × (p ≡ Some m)
            × (is_active m.phase ≡ is_active l.phase)
        seen_back None p l e f = absurd (none_some e)
        seen_back (Some o) None l e f = absurd (none_some (sym f))
        seen_back (Some o) (Some m) l e f = (
          m,
          refl,
          sym (seen_active m)
              ∙ (ap (λ (l : Leaf). is_active l.phase) (sym (some_same f)) ∙ (seen_active o ∙ ap (λ (l : Leaf). is_active l.phase) (some_same e))),
        )

        by : (b : Bool) → c y ≡ b → g.own y ≡ y
        by true ours =
            let same : y ≡ i
            = sym (ap (thread_by root y) l.3)
            ∙ thread_new u g t i x component a there new done y ours l.0 l.1
            (active_works l.0.phase (first_signal l.0.signals) (ap is_active l.2 ∙ act)) in
            ap g.own same ∙ (lives ∙ sym same)
        by false out =
            let m = seen_back (slice_get new.leaves y) (slice_get g.world.leaves y) l.0 l.1 (rest.at y out) in
            let o = same_currents (slice_get g.world.leaves y) (slice_get new.leaves y) (sym (rest.currents y (not_here y out))) m.0.phase m.0.current
            (ap stance_in m.1) in
            let none : m.0.current ≡ None = sym o.2 ∙ (ap (λ (l : Leaf). l.current) (some_same (sym o.1 ∙ l.1)) ∙ l.3) in
            t.main y m.0.phase (ap stance_in m.1 ∙ ap (λ o. Some (stance m.0.phase o)) none) (m.2 ∙ (ap is_active l.2 ∙ act))
          where
            or_false : (b c : Bool) → (b || c) ≡ false → c ≡ false
            or_false true c e = absurd cc
            or_false false c e = e

            not_here : (y : ℕ) → c y ≡ false → y ≢ x
            not_here y out e = true≢false (sym (ap (λ n. n == x) e ∙ equal_self x) ∙ or_false (works g i y) (y == x) out)

    -- a leaf in a section
    pub fits_active : (phase : Phase) (q : Current) → Fits phase (Some q) → is_active phase ≡ true
    fits_active Blocked q f = refl
    fits_active Handling q f = refl
    fits_active Pending q f = absurd f
    fits_active Running q f = absurd f
    fits_active Serving q f = absurd f
    fits_active Exited q f = absurd f

    held : (y : ℕ) (phase : Phase) (q : Current) → (links new).stances y ≡ Some (stance phase (Some q)) → g.own y ≢ y → g.own y ≡ root q.session
    held y phase q at ne = elim (eqb_tells y x) [
      | inl e ↦ ap g.own e.1 ∙ here (ap (links new).stances (sym e.1) ∙ at) (λ own. ne (ap g.own e.1 ∙ (own ∙ sym e.1))) (accepts_or_not a)
      | inr e ↦
          let o = same_currents (slice_get new.leaves y) (slice_get g.world.leaves y) (rest.currents y e.1) phase (Some q) at in
          before y o.0.phase (ap stance_in o.1 ∙ ap (λ p. Some (stance o.0.phase p)) o.2) ne
    ]
      where
        before : (y : ℕ) (p : Phase) → (links g.world).stances y ≡ Some (stance p (Some q)) → g.own y ≢ y → g.own y ≡ root q.session
        before y p stood ne =
            let m = t.linked.handles y p q stood in
            let s = outlined (session_at g.world q.session) m.0 m.1 in
            t.held y p q stood ne ∙ sym (same_root q.session s.0 s.1)

        here : (links new).stances x ≡ Some (stance phase (Some q)) → g.own x ≢ x → Accepts a ⊎ (Accepts a → ⊥) → g.own x ≡ root q.session
        here at own (inl serves) =
            let l = leaf_of (slice_get new.leaves x) phase (Some q) at in
            taken serves own ∙ sym (sym (ap (thread_by root x) l.3) ∙ done.taken serves l.0 l.1)
        here at own (inr works) =
            let l = leaf_of (slice_get new.leaves x) phase (Some q) at in
            let act = fits_active phase q (linked.fits x (stance phase (Some q)) at) in
            let current : a.current ≡ Some q = sym (rest.mine works l.0 l.1 (ap is_active l.2 ∙ act)) ∙ l.3 in
            before x a.phase (ap stance_in there ∙ ap (λ o. Some (stance a.phase o)) current) own

    -- a leaf that has a signal to take had it before
    signals : (y : ℕ) (l : Leaf) → slice_get new.leaves y ≡ Some l → is_some (first_signal l.signals) ≡ true → (g.own y ≡ y) × (l.current ≡ None)
    signals y l at flag =
        let m = done.flags y l at flag in
        let was = t.signals y m.0 m.1 m.2 in (
          was.0,
          elim (eqb_tells y x) [
            | inl e ↦ here (ap (slice_get new.leaves) (sym e.1) ∙ at) m.0 (ap (slice_get g.world.leaves) (sym e.1) ∙ m.1) m.2 was.1
            | inr e ↦
                let o = same_currents (slice_get new.leaves y) (slice_get g.world.leaves y) (rest.currents y e.1) l.phase l.current (ap stance_in at) in
                sym o.2 ∙ (ap (λ (l : Leaf). l.current) (some_same (sym o.1 ∙ m.1)) ∙ was.1)
          ],
        )
      where
        none_by : (current : Option Current) → Fits Serving current → current ≡ None
        none_by None f = refl
        none_by (Some q) f = absurd f

        here : slice_get new.leaves x ≡ Some l → (m : Leaf) → slice_get g.world.leaves x ≡ Some m → is_some (first_signal m.signals) ≡ true
            → m.current ≡ None → l.current ≡ None
        here at m was flagged none = by l.current refl
          where
            same : m ≡ a
            same = some_same (sym was ∙ there)

            busy : Accepts a → ⊥
            busy p = true≢false (sym flagged ∙ (ap (λ (l : Leaf). is_some (first_signal l.signals)) same ∙ ap is_some p.1))

            by : (current : Option Current) → l.current ≡ current → l.current ≡ None
            by None e = e
            by (Some q) e =
                let stood : (links new).stances x ≡ Some (stance l.phase (Some q)) = ap stance_in at ∙ ap (λ o. Some (stance l.phase o)) e in
                rest.mine busy l at (fits_active l.phase q (linked.fits x (stance l.phase (Some q)) stood))
                ∙ (ap (λ (l : Leaf). l.current) (sym same) ∙ none)

    pub still_placed : IsPlaced u g_new
    still_placed = record {
      acyclic = t.acyclic;
      linked = linked;
      below = below;
      waits = waits;
      uses = uses;
      lives = lives_on;
      main = main;
      held = held;
      signals = signals;
    }

-- WHERE A LEAF THAT IS NOT SHARED IS ANOTHER'S FOR GOOD

module _ (u : System) (g : Tracked) (t : IsTracked u g) (i x : ℕ) (component : Component) (a : Leaf) (there : slice_get g.world.leaves x ≡ Some a)
    (new : World) (event : Event) (done : IsDone u g t.placed i x component a there new) (opened : AreOpened u g.own g.root new) (lives : g.own i ≡ i)
    (taken : Accepts a → g.own x ≢ x → g.own x ≡ i) (single_taken : is_unshared u x ≡ true → Accepts a → g.own x ≢ x) where
  abbrev dd : Doing
  dd = record { system = u; world = g.world; x = x; component = component; leaf = record a { steps = suc a.steps } }

  abbrev roots : ℕ → ℕ
  roots = anew g.root (free_place g.world.sessions) i

  abbrev cs : ℕ → Bool
  cs y = works g i y || y == x

  placed : IsPlaced u (stepped_to g x i (Ok (new, event)))
  placed = still_placed u g t.placed i x component a there new event done (λ k s at. (opened k s at).uses) lives taken

  stands : AreOpened u g.own roots new
  stands k s at =
      let o = opened k s at in
      record { uses = o.uses; n = o.n; z = o.z; starts = o.starts; is = by (done.rest.slot_ids k s at) ∙ o.is }
    where
      by : IsOld dd i g.own roots cs (OursBy dd i g.own roots) k s ⊎ IsNew dd i g.own roots cs (OursBy dd i g.own roots) k s
          → root_at g.own roots s.slot_id ≡ root_at g.own g.root s.slot_id
      by (inl o) = kept_old u g t.placed i x component a there new event done (λ k s at. (opened k s at).uses) lives taken k s o
      by (inr o) = kept_new u g t.placed i x component a there new event done (λ k s at. (opened k s at).uses) lives taken s.slot_id s.client o.named
          (done.linked.belongs k (outline s) (ap outline_in at))

  busy : (y : ℕ) (phase : Phase) (q : Current) → (links new).stances y ≡ Some (stance phase (Some q)) → is_unshared u y ≡ true → g.own y ≢ y
  busy y phase q at single = elim (eqb_tells y x) [
    | inl e ↦ subst (λ y. g.own y ≢ y) (sym e.1)
        (here (ap (links new).stances (sym e.1) ∙ at) (ap (is_unshared u) (sym e.1) ∙ single) (accepts_or_not a))
    | inr e ↦
        let o = same_currents (slice_get new.leaves y) (slice_get g.world.leaves y) (done.rest.currents y e.1) phase (Some q) at in
        t.busy y o.0.phase q (ap stance_in o.1 ∙ ap (λ p. Some (stance o.0.phase p)) o.2) single
  ]
    where
      here : (links new).stances x ≡ Some (stance phase (Some q)) → is_unshared u x ≡ true → Accepts a ⊎ (Accepts a → ⊥) → g.own x ≢ x
      here at single (inl serves) = single_taken single serves
      here at single (inr works) =
          let l = leaf_of (slice_get new.leaves x) phase (Some q) at in
          let act = fits_active u g t.placed i x component a there new event done (λ k s at. (opened k s at).uses) lives taken phase q
          (done.linked.fits x (stance phase (Some q)) at) in
          let current : a.current ≡ Some q = sym (done.rest.mine works l.0 l.1 (ap is_active l.2 ∙ act)) ∙ l.3 in
          t.busy x a.phase q (ap stance_in there ∙ ap (λ o. Some (stance a.phase o)) current) single

  pub still_tracked : IsTracked u (stepped_to g x i (Ok (new, event)))
  still_tracked = record { placed = placed; stands = stands; owned = t.owned; busy = busy }
