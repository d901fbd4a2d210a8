-- Two threads never both ask a server that is not shared.
use Rattle.std.proofs.Common.{◌≡◌, ◌≢◌, ◌⊎◌, inl, inr, ℕ, zero, suc, ◌==◌, not, Bool, true, false, cond, List, [], ◌∷◌, Option, Some, None}
use Rattle.std.proofs.Common.{refl, ap, sym, ◌∙◌, subst}
use Rattle.std.specs.Prelude.{slice_get}
use Rattle.std.proofs.lemmas.Bool.{true≢false}
use Rattle.gq_model.specs.declared.phase.Phase.TheVariants.{Blocked}
use Rattle.gq_model.specs.declared.program.Instruction.{Instruction}
use Rattle.gq_model.specs.machine.Scenario.{Component, Scenario, System, system}
use Rattle.gq_model.specs.machine.Step.{is_to}
use Rattle.gq_model.specs.machine.World.{In_leaf, Leaf, Request, Session, World, session_at}
use Rattle.gq_model.proofs.Small_facts.{none_some, some_same}
use Rattle.gq_laws.specs.Session_links.{links, outline, outline_in, stance, stance_in}
use Rattle.gq_laws.specs.Shapes.{Each}
use Rattle.gq_laws.specs.Sound_scenarios.{IsSound}
use Rattle.gq_laws.specs.internal.Uncounted.{uncounted}
use Rattle.gq_laws.proofs.ready.Routed_leaf_services.{found}
use Rattle.gq_laws.proofs.session_links.Asked_request_changes.{same_current, same_phase}
use Rattle.gq_races.specs.Races.{is_owner, is_shared, opens_first, opens_later, owns}
use Rattle.gq_determined.specs.internal.Threads.{among, is_active, who}
use Rattle.gq_determined.proofs.thread_positions.First_request_given.{equal_of}
use Rattle.gq_determined.proofs.thread_positions.Single_thread_position.{root_at, HasParent, IsFirst, IsWaiting, above, handled}
use Rattle.gq_determined.proofs.thread_positions.Unshared_leaf_owner.{for_first, for_later, owner_of}
use Rattle.gq_determined.proofs.thread_runs.Raceless_first_statements.{OpensThere}
use Rattle.gq_determined.proofs.thread_runs.Remaining_section_statements.{AreSections, Lefts}
use Rattle.gq_outcomes.proofs.complete.Held_worlds.{AreQuiet, Held, view}
use Rattle.gq_outcomes.proofs.complete.Held_steps.{each_request}
use Rattle.gq_outcomes.proofs.complete.Order_of_requests.{asked_of, roots_in}
use Rattle.gq_outcomes.proofs.complete.Alike_held.{IsGood, end, good_end}
use Rattle.gq_outcomes.proofs.complete.Two_orders.{apart, who_stays}
use Rattle.gq_outcomes.proofs.complete.Either_order.{asked_x, asked_y}
use Rattle.gq_outcomes.proofs.complete.Opened_sections.{AreBy, Begun, IsBy, by_next}

module _ (s : Scenario) (sound : IsSound s) (holds : ℕ → Bool) (P : ℕ → Component → Bool → Instruction → Type 0)
    (sections : AreSections P (uncounted (system s))) (quiet_of : (w : World) → Lefts P (uncounted (system s)) w → AreQuiet holds w) where
  abbrev u : System
  u = uncounted (system s)

  abbrev G : Held → Type 0
  G m = IsGood s sound holds P sections quiet_of m

  module _ (n : Held) (g : G n) (opened : AreBy u n.world) where
    -- whoever waits for a server that has an owner does so for the owner's thread
    root_owner : (most w z : ℕ) → owns most u w z ≡ true → (k : ℕ) (a : IsWaiting u (view n) g.held.placed k) → a.session.server ≡ z
        → (view n).root k ≡ n.hold w
    root_owner zero w z e k a to = absurd (true≢false (sym e))
    root_owner (suc most) w z e k a to =
        by (λ y f q b t. root_owner most w y f q b t) (opened.each k a.session a.there)
      where
        by : ((y : ℕ) → owns most u w y ≡ true → (q : ℕ) (b : IsWaiting u (view n) g.held.placed q) → b.session.server ≡ y → (view n).root q ≡ n.hold w)
            → IsBy u n.world a.session.slot_id a.session.client a.session.server → (view n).root k ≡ n.hold w
        by less p = elim p.2 [ inl f ↦ first f.0 f.1.0 f.1.1 | inr f ↦ later f.0 f.1 (above u (view n) g.held.placed k a) ]
          where
            here : (b : IsWaiting u (view n) g.held.placed k) → b.session ≡ a.session
            here b = some_same (sym b.there ∙ a.there)

            first : opens_first u a.session.server p.0 ≡ true → (b : ℕ) → a.session.slot_id ≡ In_leaf a.session.client b → (view n).root k ≡ n.hold w
            first opens b slot =
                let client : a.session.client ≡ w
                = for_first u most w z a.session.client p.0 e p.1 (ap (λ z. opens_first u z p.0) (sym to) ∙ opens) in
                g.held.placed.below k a.session a.there ∙ (ap (root_at n.hold (view n).root) slot ∙ ap n.hold client)

            later : opens_later u a.session.server p.0 ≡ true → Begun n.world a.session.client
                → IsFirst u (view n) g.held.placed k ⊎ HasParent u (view n) g.held.placed k → (view n).root k ≡ n.hold w
            later opens begun o =
                let owned : owns most u w a.session.client ≡ true
                = for_later u most w z a.session.client p.0 e p.1 (ap (λ z. opens_later u z p.0) (sym to) ∙ opens) in
                elim o [
                  | inl f ↦
                      let is : a.session.client ≡ (view n).root k = ap (λ (s : Session). s.client) (sym (here f.waiting)) ∙ f.client in
                      absurd (in_main is f.at)
                  | inr q ↦
                      let is : q.waiting.session.client ≡ a.session.client = ap (λ (s : Session). s.client) (here q.waiting) in
                      let p = handled u (view n) g.held.placed q.waiting.session.client Blocked q.parent q.at in
                      q.root ∙ less a.session.client owned q.parent.session p.waiting (p.server ∙ is)
                ]
              where
                in_main : a.session.client ≡ (view n).root k → (links n.world).stances ((view n).root k) ≡ Some (stance Blocked None) → ⊥
                in_main is at = of (slice_get n.world.leaves a.session.client) refl
                  where
                    stood : (links n.world).stances a.session.client ≡ Some (stance Blocked None)
                    stood = ap (links n.world).stances is ∙ at

                    of : (o : Option Leaf) → slice_get n.world.leaves a.session.client ≡ o → ⊥
                    of None e = none_some (sym (ap stance_in e) ∙ stood)
                    of (Some l) e =
                        let both : Some (stance l.phase l.current) ≡ Some (stance Blocked None) = sym (ap stance_in e) ∙ stood in
                        let q = begun l e (ap is_active (same_phase both)) in none_some (sym (same_current both) ∙ q.1)

    -- a thread asks a server, or not
    abbrev pub AsksIt : ℕ → ℕ → Type 0
    AsksIt i z = (k : ℕ) × (a : IsWaiting u (view n) g.held.placed k) × (a.session.server ≡ z) × ((view n).root k ≡ i)

    pub asks_or : (i z : ℕ) → (asked_of n i z ≡ []) ⊎ AsksIt i z
    asks_or i z = by n.world.requests (each_request u (view n) g.held.placed (λ r. IsWaiting u (view n) g.held.placed r.session)
        (λ k a r e. subst (λ k. IsWaiting u (view n) g.held.placed k) (sym e) a))
      where
        by : (rs : List Request) → Each (λ r. IsWaiting u (view n) g.held.placed r.session) rs
            → (roots_in (view n).root n.world z (among (view n).root i rs) ≡ []) ⊎ AsksIt i z
        by [] each = inl refl
        by (r ∷ rs) each = of ((view n).root r.session == i) refl (by rs each.1)
          where
            of : (b : Bool) → ((view n).root r.session == i) ≡ b → (roots_in (view n).root n.world z (among (view n).root i rs) ≡ []) ⊎ AsksIt i z
                → (roots_in (view n).root n.world z (cond b (r ∷ among (view n).root i rs) (among (view n).root i rs)) ≡ []) ⊎ AsksIt i z
            of false e (inl f) = inl f
            of b e (inr f) = inr f
            of true e (inl f) = to (is_to z (session_at n.world r.session)) refl
              where
                to : (d : Bool) → is_to z (session_at n.world r.session) ≡ d
                    → (cond d ((view n).root r.session ∷ roots_in (view n).root n.world z (among (view n).root i rs))
                    (roots_in (view n).root n.world z (among (view n).root i rs)) ≡ []) ⊎ AsksIt i z
                to false g = inl f
                to true g =
                    inr (r.session, each.0, equal_of _ _ (sym (ap (is_to z) each.0.there) ∙ g), equal_of ((view n).root r.session) i e)

    -- nobody asks a server that is not there
    none_asks : (z : ℕ) → slice_get u.components z ≡ None → (i : ℕ) → asked_of n i z ≡ []
    none_asks z none i = elim (asks_or i z) [
      | inl e ↦ e
      | inr p ↦
          let r = g.held.placed.linked.routed p.0 (outline p.1.session) (ap outline_in p.1.there) in
          let d = found s p.1.session.server r.0 p.1.session.service r.2 in
          absurd (none_some (sym none ∙ (ap (slice_get u.components) (sym p.2) ∙ d.1)))
    ]

    -- so it is one thread
    one_asks : (z : ℕ) → is_shared u z ≡ false → (i j : ℕ) → i ≢ j → (asked_of n i z ≡ []) ⊎ (asked_of n j z ≡ [])
    one_asks z single i j ne = by (asks_or i z) (asks_or j z)
      where
        w : (w : ℕ) × (is_owner u w z ≡ true)
        w = owner_of u z (ap not single)

        by : (asked_of n i z ≡ []) ⊎ AsksIt i z → (asked_of n j z ≡ []) ⊎ AsksIt j z → (asked_of n i z ≡ []) ⊎ (asked_of n j z ≡ [])
        by (inl e) q = inl e
        by (inr p) (inl e) = inr e
        by (inr p) (inr q) =
            absurd (ne (sym p.3 ∙ (root_owner _ w.0 z w.1 p.0 p.1 p.2 ∙ (sym (root_owner _ w.0 z w.1 q.0 q.1 q.2) ∙ q.3))))

    one_or : (z : ℕ) → (is_shared u z ≡ false) ⊎ (slice_get u.components z ≡ None) → (i j : ℕ) → i ≢ j
        → (asked_of n i z ≡ []) ⊎ (asked_of n j z ≡ [])
    one_or z (inl single) i j ne = one_asks z single i j ne
    one_or z (inr none) i j ne = inl (none_asks z none i)

  module _ (opens_of : (x : ℕ) (c : Component) (later : Bool) (i : Instruction) → P x c later i → OpensThere u c later i) where
    pub lone : (m : Held) (h : G m) → AreBy u m.world → (i x : ℕ) (is : who (view m) x ≡ Some i) (j y : ℕ) (is_y : who (view m) y ≡ Some j) → x ≢ y
        → (z : ℕ) → (is_shared u z ≡ false) ⊎ (slice_get u.components z ≡ None)
        → (asked_of (end s sound holds P sections quiet_of m h i x is) i z ≡ []) ⊎ (asked_of (end s sound holds P sections quiet_of m h j y is_y) j z ≡ [])
    lone m h opened i x is j y is_y ne z single =
        let mx = end s sound holds P sections quiet_of m h i x is in
        let hx = good_end s sound holds P sections quiet_of m h i x is in
        let y_then = who_stays s sound holds P sections quiet_of m h i x j y is is_y ne in
        let x_then = who_stays s sound holds P sections quiet_of m h j y i x is_y is (λ e. ne (sym e)) in
        let mxy = end s sound holds P sections quiet_of mx hx j y y_then in
        let hxy = good_end s sound holds P sections quiet_of mx hx j y y_then in
        let by_x = by_next s sound holds P sections quiet_of opens_of m h i x is opened in
        let by_xy = by_next s sound holds P sections quiet_of opens_of mx hx j y y_then by_x in
        elim (one_or mxy hxy by_xy z single i j (apart s sound holds P sections quiet_of m h i x j y is is_y ne)) [
          | inl e ↦ inl (asked_x s sound holds P sections quiet_of m h i x is j y is_y ne y_then x_then z ∙ e)
          | inr e ↦ inr (sym (asked_y s sound holds P sections quiet_of m h i x is j y is_y ne y_then x_then z) ∙ e)
        ]
