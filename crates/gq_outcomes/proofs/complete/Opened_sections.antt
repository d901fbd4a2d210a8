-- Each session was opened by its client in `main`, or in a section and then its client is done with `main`.
use Rattle.std.proofs.Common.{◌≡◌, ◌≢◌, ◌⊎◌, inl, inr, ℕ, suc, ◌==◌, ◌&&◌, ◌||◌, Bool, true, false, Option, Some, None, is_some}
use Rattle.std.proofs.Common.{refl, ap, sym, ◌∙◌, subst}
use Rattle.std.specs.Prelude.{option_map, slice_get}
use Rattle.std.proofs.lemmas.Bool.{true≢false}
use Rattle.std.proofs.lemmas.Bool.Decides.{eqb_tells}
use Rattle.gq_model.specs.declared.phase.Phase.{Phase}
use Rattle.gq_model.specs.declared.phase.Phase.TheVariants.{Pending, Running, Blocked, Serving, Handling, Exited}
use Rattle.gq_model.specs.declared.program.Instruction.{Instruction}
use Rattle.gq_model.specs.declared.program.Instruction.TheVariants.{Open}
use Rattle.gq_model.specs.declared.program.OperandSlot.{OperandSlot}
use Rattle.gq_model.specs.declared.program.OperandSlot.TheVariants.{Own, Shared, Object}
use Rattle.gq_model.specs.machine.Doing.{Doing}
use Rattle.gq_model.specs.machine.Program.{Statements, Done, Do, If, Loop}
use Rattle.gq_model.specs.machine.Scenario.{Component, Scenario, System, system}
use Rattle.gq_model.specs.machine.Step.{accept, accept_oldest, serve, step_in, step_of}
use Rattle.gq_model.specs.machine.World.{Current, In_leaf, Leaf, Session, SlotId, World, session_at, slot_id_of}
use Rattle.gq_model.proofs.Small_facts.{none_some, some_same}
use Rattle.gq_laws.specs.Sound_scenarios.{IsSound}
use Rattle.gq_laws.specs.internal.Remaining_instructions.{AllAre}
use Rattle.gq_laws.specs.internal.Uncounted.{uncounted}
use Rattle.gq_laws.proofs.step_shapes.Step_change_shapes.{accept_by}
use Rattle.gq_laws.proofs.step_shapes.Step_end_shapes.{Ends}
use Rattle.gq_laws.proofs.step_shapes.Step_end_worlds.{begun}
use Rattle.gq_races.specs.Races.{opens_first, opens_later}
use Rattle.gq_determined.specs.internal.Threads.{Accepts, is_active, seen, thread_by, who, works, works_for}
use Rattle.gq_determined.proofs.rest_accounts.Own_peak_bounds.{put_cases}
use Rattle.gq_determined.proofs.thread_positions.First_request_given.{working_serving}
use Rattle.gq_determined.proofs.thread_positions.Turn_thread_position.{IsServing, IsWorking, who_is}
use Rattle.gq_determined.proofs.thread_runs.Raceless_first_statements.{OpensThere, opens_at}
use Rattle.gq_determined.proofs.thread_runs.Remaining_section_statements.{AreSections, Lefts}
use Rattle.gq_determined.proofs.thread_runs.Suitable_session_slots.{FirstSuited, FirstsSuited, kept_suited}
use Rattle.gq_outcomes.proofs.complete.Held_worlds.{AreQuiet, Held, taken, view}
use Rattle.gq_outcomes.proofs.complete.Good_worlds.{c, event, new, seen_exited, solo_one, stepped, there_c}
use Rattle.gq_outcomes.proofs.complete.Alike_held.{IsGood, end}
use Rattle.gq_outcomes.proofs.complete.Two_orders.{seen_serving}
use Rattle.gq_outcomes.proofs.complete.Unsubmitted_signals.{active_at, goes_on, works_as}

inactive_is : (p : Phase) → is_active p ≡ false → (p ≡ Serving) ⊎ (p ≡ Exited)
inactive_is Serving e = inl refl
inactive_is Exited e = inr refl
inactive_is Pending e = absurd (true≢false e)
inactive_is Running e = absurd (true≢false e)
inactive_is Blocked e = absurd (true≢false e)
inactive_is Handling e = absurd (true≢false e)

-- a leaf that does something does a section
abbrev pub Begun : World → ℕ → Type 0
Begun w y = (l : Leaf) → slice_get w.leaves y ≡ Some l → is_active l.phase ≡ true → (q : Current) × (l.current ≡ Some q)

-- a leaf opens sessions with another in `main`, in an own slot, or in a section and has begun one
abbrev pub IsBy : System → World → SlotId → ℕ → ℕ → Type 0
IsBy u w q y z =
    (d : Component) × (slice_get u.components y ≡ Some d)
    × (((opens_first u z d ≡ true) × ((a : ℕ) × (q ≡ In_leaf y a))) ⊎ ((opens_later u z d ≡ true) × Begun w y))

pub record AreBy (u : System) (w : World) : Type 0 where
  pub each : (k : ℕ) (a : Session) → session_at w k ≡ Some a → IsBy u w a.slot_id a.client a.server

-- `main` names own slots alone
own_slot : (x : ℕ) (place : OperandSlot) (q : SlotId) → slot_id_of x None place ≡ Some q → (a : ℕ) × (q ≡ In_leaf x a)
own_slot x (Own a) q e = (a, sym (some_same e))
own_slot x (Shared a) q e = absurd (none_some e)
own_slot x Object q e = absurd (none_some e)

module _ (s : Scenario) (sound : IsSound s) (holds : ℕ → Bool) (P : ℕ → Component → Bool → Instruction → Type 0)
    (sections : AreSections P (uncounted (system s))) (quiet_of : (w : World) → Lefts P (uncounted (system s)) w → AreQuiet holds w)
    (opens_of : (x : ℕ) (c : Component) (later : Bool) (i : Instruction) → P x c later i → OpensThere (uncounted (system s)) c later i)
    (m : Held) (h : IsGood s sound holds P sections quiet_of m) where
  abbrev u : System
  u = uncounted (system s)

  -- what comes first opens sessions so
  firsts : FirstsSuited (λ q client server. IsBy u m.world q client server) u m.world
  firsts x c leaf at there = by leaf.todo ((h.left.at x leaf there c at).0)
    where
      by : (todo : Statements) → AllAre (P x c (is_some leaf.current)) todo
          → FirstSuited (λ q client server. IsBy u m.world q client server)
          (record { system = u; world = m.world; x = x; component = c; leaf = record leaf { steps = suc leaf.steps } }) todo
      by Done f = tt
      by (Do (Open place service n) rest) f = λ q server named routed. (c, at, of leaf.current refl q server named (λ later e. open_of later e server routed))
        where
          open_of : (o : Option Current) → leaf.current ≡ o → OpensThere u c (is_some o) (Open place service n)
          open_of o e = subst (λ o. OpensThere u c (is_some o) (Open place service n)) e (opens_of x c (is_some leaf.current) (Open place service n) f.0)

          of : (o : Option Current) → leaf.current ≡ o → (q : SlotId) (server : ℕ) → slot_id_of x leaf.current place ≡ Some q
              → ((p : Option Current) → leaf.current ≡ p → opens_at u server c (is_some p) ≡ true)
              → ((opens_first u server c ≡ true) × ((a : ℕ) × (q ≡ In_leaf x a))) ⊎ ((opens_later u server c ≡ true) × Begun m.world x)
          of None e q server named g = inl (g None e, own_slot x place q (ap (λ o. slot_id_of x o place) (sym e) ∙ named))
          of (Some q) e slot server named g = inr (g (Some q) e, λ l at_l act. (q, ap (λ (l : Leaf). l.current) (some_same (sym at_l ∙ there)) ∙ e))
      by (Do _ rest) f = tt
      by (If arm other rest) f = tt
      by (Loop count body rest) f = tt

  module _ (i x : ℕ) (is : who (view m) x ≡ Some i) where
    abbrev w2 : World
    w2 = new s sound holds P sections quiet_of m h i x is

    abbrev serves_in : Leaf → Doing
    serves_in leaf =
        record { system = u; world = m.world; x = x; component = c s sound holds P sections quiet_of m h i x is; leaf = record leaf { steps = suc leaf.steps } }

    abbrev HasOne : World → Type 0
    HasOne v = (l : Leaf) → slice_get v.leaves x ≡ Some l → (q : Current) × (l.current ≡ Some q)

    -- a leaf that has begun a section is done with `main`
    pub begun_kept : (y : ℕ) → Begun m.world y → Begun w2 y
    begun_kept y b l at act = elim (eqb_tells y x) [ inl q ↦ here (who_is (view m) i x is) q.1 | inr q ↦ else (slice_get m.world.leaves y) refl q.1 ]
      where
        else : (o : Option Leaf) → slice_get m.world.leaves y ≡ o → y ≢ x → (q : Current) × (l.current ≡ Some q)
        else None e ne =
            absurd (none_some (sym (ap (option_map (λ (l : Leaf). l.current)) e)
            ∙ (sym ((solo_one s sound holds P sections quiet_of m h i x is).done.rest.currents y ne) ∙ ap (option_map (λ (l : Leaf). l.current)) at)))
        else (Some k) e ne = of (is_active k.phase) refl
          where
            same : l.current ≡ k.current
            same = some_same (sym (ap (option_map (λ (l : Leaf). l.current)) at)
                ∙ ((solo_one s sound holds P sections quiet_of m h i x is).done.rest.currents y ne ∙ ap (option_map (λ (l : Leaf). l.current)) e))

            unequal : (y == x) ≡ false
            unequal = elim (eqb_tells y x) [ inl q ↦ absurd (ne q.1) | inr q ↦ q.0 ]

            out : is_active k.phase ≡ false → (works (view (taken holds m x i)) i y || y == x) ≡ false
            out off = ap (λ o. works_for (view (taken holds m x i)).root i y o || y == x) e
                ∙ (ap (λ b. b && (thread_by (view (taken holds m x i)).root y k.current == i) || y == x) (works_as k (h.held.calm.none y k e) ∙ off) ∙ unequal)

            seen_same : is_active k.phase ≡ false → seen l ≡ seen k
            seen_same off = some_same (sym (ap (option_map seen) at)
                ∙ ((solo_one s sound holds P sections quiet_of m h i x is).done.rest.at y (out off) ∙ ap (option_map seen) e))

            of : (a : Bool) → is_active k.phase ≡ a → (q : Current) × (l.current ≡ Some q)
            of true on = let q = b k e on in (q.0, same ∙ q.1)
            of false off = elim (inactive_is k.phase off) [
              | inl f ↦ absurd (true≢false (sym act ∙ ap is_active (seen_serving l k (seen_same off) f)))
              | inr f ↦ absurd (true≢false (sym act ∙ ap is_active (seen_exited l k (seen_same off) f)))
            ]

        here : IsWorking (view m) i x ⊎ IsServing (view m) i x → y ≡ x → (q : Current) × (l.current ≡ Some q)
        here (inl w) q =
            let a = (solo_one s sound holds P sections quiet_of m h i x is).a in
            let there = (solo_one s sound holds P sections quiet_of m h i x is).there in
            let same : w.at.leaf ≡ a = some_same (sym w.at.there ∙ there) in
            let on = goes_on (view m) h.held.calm i x w in
            let busy : Accepts a → ⊥ = λ f. working_serving w.at.leaf.phase on (ap (λ (l : Leaf). l.phase) same ∙ f.0) in
            let old = b w.at.leaf (ap (slice_get m.world.leaves) q ∙ w.at.there) (active_at w.at.leaf.phase on) in
            let now = (solo_one s sound holds P sections quiet_of m h i x is).done.rest.mine busy l (ap (slice_get w2.leaves) (sym q) ∙ at) act in
            (old.0, now ∙ (ap (λ (l : Leaf). l.current) (sym same) ∙ old.1))
        here (inr p) q = accepts.holds w2 (event s sound holds P sections quiet_of m h i x is)
            (sym ((λ j. step_of u m.world x (there_c s sound holds P sections quiet_of m h i x is j) (p.there j))
            ∙ (ap (step_in (serves_in p.leaf)) p.serves ∙ (ap (serve (serves_in p.leaf)) p.idle ∙ ap (accept_oldest (serves_in p.leaf)) p.found)))
            ∙ stepped s sound holds P sections quiet_of m h i x is)
            l (ap (slice_get w2.leaves) (sym q) ∙ at)
          where
            accepts : Ends HasOne (accept (serves_in p.leaf) p.taken.0 p.taken.1)
            accepts = accept_by HasOne (serves_in p.leaf) p.taken.0 p.taken.1
                (λ old there l f. elim (put_cases m.world.leaves x x (begun (serves_in p.leaf) p.taken.0 old) l f) [
                  | inl q ↦ (_, ap (λ (l : Leaf). l.current) q.1)
                  | inr q ↦ absurd (q.0 refl)
                ])

    pub by_next : AreBy u m.world → AreBy u (end s sound holds P sections quiet_of m h i x is).world
    by_next b = record {
      each = λ k a at.
          let t = (kept_suited (λ q client server. IsBy u m.world q client server) u m.world x w2 (event s sound holds P sections quiet_of m h i x is)
          (record { at = b.each }) firsts (stepped s sound holds P sections quiet_of m h i x is)).at k a at in
          (t.0, t.1, elim t.2 [ inl f ↦ inl f | inr g ↦ inr (g.0, begun_kept a.client g.1) ]);
    }
