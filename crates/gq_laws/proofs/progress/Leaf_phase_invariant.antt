-- In each world that a resolved scenario comes to, a leaf that is pending or has exited provides no service, one that serves does, and a pending
-- leaf starts after one that has not exited.
use Rattle.std.proofs.Common.{◌≡◌, ℕ, zero, suc, ◌⊎◌, inl, inr, Bool, true, false, cond, nat_lt, List, [], ◌∷◌, Option, Some, None, Ok, refl, ap}
use Rattle.std.proofs.Common.{sym, ◌∙◌, subst, arith}
use Rattle.std.specs.Prelude.{slice_get, slice_set, is_some}
use Rattle.gq_model.specs.machine.Program.{Statements, Done, Do, If, Loop, text_eq, section_in}
use Rattle.gq_model.specs.declared.program.Instruction.{Instruction}
use Rattle.gq_model.specs.declared.phase.Phase.{Phase}
use Rattle.gq_model.specs.declared.phase.Phase.TheVariants.{Pending, Running, Blocked, Serving, Handling, Exited}
use Rattle.gq_model.specs.declared.fault.Wrong.TheVariants.{WrongKind, MissingSection}
use Rattle.gq_model.specs.machine.Scenario.{System, Component}
use Rattle.gq_model.specs.machine.World.{Slot, SlotId, Request, Current, Round, Leaf, Signal}
use Rattle.gq_model.specs.machine.World.{World, session_at, with_leaf, with_slot}
use Rattle.gq_model.specs.machine.World.{first_phase, start}
use Rattle.gq_model.specs.machine.Doing.{Doing, Event, Idle, Quiet, Finished, Stepped, standing, settled}
use Rattle.gq_model.specs.machine.Step.{instruct, oldest, no_link, accept, serving, resumed, serve, first_signal, reacting_to}
use Rattle.gq_model.specs.machine.Step.{active_again, unblocked, is_named, released, all_released, exited, exit_of, main_ended}
use Rattle.gq_model.specs.machine.Step.{section_ended, body_ended, perform, accept_oldest, step_in, step_of, next}
use Rattle.gq_model.proofs.Small_facts.{some_same, none_some, text_self}
use Rattle.gq_laws.specs.Leaf_phases.{AreReady, NotExited, Suits, serves}
use Rattle.gq_laws.specs.Inside_steps.{TakesLeaf}
use Rattle.gq_laws.proofs.step_shapes.Step_end_shapes.{Ends, gives, need_ends, need_found, when_ends, pop_ends}
use Rattle.gq_laws.proofs.remaining_work.Remaining_program_statements.{set_get}
use Rattle.gq_laws.proofs.step_shapes.Step_end_worlds.{begun}
use Rattle.gq_laws.proofs.typed_worlds.Start_typed.{start_at}
use Rattle.gq_laws.proofs.step_shapes.Step_change_shapes.{plain_instruct_by, reply_by, accept_by, slot_by}
use Rattle.gq_model.specs.declared.section.Section.TheVariants.{Reacting}
use Rattle.std.proofs.lemmas.Bool.{or_left, lt-ltb}

-- A CHANGE THAT LETS NO LEAF EXIT

module _ (system : System) (old : World) where
  -- a phase in which a leaf has started and not exited
  abbrev IsBusy : ℕ → Phase → Type 0
  IsBusy y Pending = ⊥
  IsBusy y Running = Unit {0}
  IsBusy y Blocked = Unit {0}
  IsBusy y Serving = (c : Component) → slice_get system.components y ≡ Some c → serves c.node.provides c.node.signals ≡ true
  IsBusy y Handling = Unit {0}
  IsBusy y Exited = ⊥

  -- it handles no other signal, or a signal of a leaf that serves
  abbrev MildAt : ℕ → Leaf → Type 0
  MildAt y leaf = (was : Leaf) × (slice_get old.leaves y ≡ Some was) × ((leaf.phase ≡ was.phase) ⊎ IsBusy y leaf.phase)
      × ((i : ℕ) → leaf.reacting ≡ Some i → (was.reacting ≡ Some i) ⊎ ((c : Component) → slice_get system.components y ≡ Some c
      → serves c.node.provides c.node.signals ≡ true))

  record Mild (w : World) : Type 0 where
    at : (y : ℕ) (leaf : Leaf) → slice_get w.leaves y ≡ Some leaf → MildAt y leaf

  mild_leaf : (w : World) (x : ℕ) (leaf : Leaf) → Mild w → MildAt x leaf → Mild (with_leaf w x leaf)
  mild_leaf w x leaf h fits = record { at = each }
    where
      each : (y : ℕ) (new : Leaf) → slice_get (slice_set w.leaves x leaf) y ≡ Some new → MildAt y new
      each y new e = elim (set_get w.leaves x y leaf new e) [
        | inl f ↦ subst (MildAt y) f.1 (subst (λ y. MildAt y leaf) (sym f.0) fits)
        | inr f ↦ h.at y new f
      ]

  mild_slot : (w : World) (slot_id : SlotId) (slot : Slot) → Mild w → Mild (with_slot w slot_id slot)
  mild_slot = slot_by Mild (λ w x leaf slots e h. mild_leaf w x _ h (h.at x leaf e)) (λ w sessions h. record { at = h.at })

  mild_settled : (x : ℕ) (w : World) → Mild w → Ends Mild (settled system x w)
  mild_settled x w h = need_found Mild _ _ _ (λ leaf there. when_ends Mild _ _ _ (gives _ _ (mild_leaf w x _ h (h.at x leaf there))))

  busy_resumed : (x : ℕ) (current : Option Current) (reacting : Option ℕ) → IsBusy x (resumed current reacting)
  busy_resumed x None None = tt
  busy_resumed x None (Some i) = tt
  busy_resumed x (Some g) reacting = tt

  mild_active : (w : World) (x : ℕ) (f : List ℕ → List ℕ) → Mild w → Mild (unblocked w x f)
  mild_active w x f h = go (slice_get w.leaves x) refl
    where
      go : (o : Option Leaf) → slice_get w.leaves x ≡ o → Mild (active_again w x f o)
      go None e = h
      go (Some leaf) e = mild_leaf w x _ h (let m = h.at x leaf e in (m.0, m.1, inr (busy_resumed x leaf.current leaf.reacting), m.3))

  -- such a change keeps leaves ready
  module _ (ready : AreReady system old) where
    busy_suits : (x : ℕ) (c : Component) (phase : Phase) → slice_get system.components x ≡ Some c → IsBusy x phase → Suits c.node.provides c.node.signals phase
    busy_suits x c Pending e b = absurd b
    busy_suits x c Running e b = tt
    busy_suits x c Blocked e b = tt
    busy_suits x c Serving e b = b c e
    busy_suits x c Handling e b = tt
    busy_suits x c Exited e b = absurd b

    mild_ready : (w : World) → Mild w → AreReady system w
    mild_ready w h = record { suits = suits; reacts = reacts; waits = waits }
      where
        suits : (x : ℕ) (c : Component) (leaf : Leaf) → slice_get system.components x ≡ Some c → slice_get w.leaves x ≡ Some leaf
            → Suits c.node.provides c.node.signals leaf.phase
        suits x c leaf e f =
            let m = h.at x leaf f in
            elim (m.2) [
              | inl same ↦ subst (Suits c.node.provides c.node.signals) (sym same) (ready.suits x c m.0 e m.1)
              | inr busy ↦ busy_suits x c leaf.phase e busy
            ]

        reacts : (x : ℕ) (c : Component) (leaf : Leaf) (i : ℕ) → slice_get system.components x ≡ Some c → slice_get w.leaves x ≡ Some leaf
            → leaf.reacting ≡ Some i → serves c.node.provides c.node.signals ≡ true
        reacts x c leaf i e f r =
            let m = h.at x leaf f in
            elim (m.3 i r) [
              | inl same ↦ ready.reacts x c m.0 i e m.1 same
              | inr has ↦ has c e
            ]

        still : (name : List ℕ) → NotExited system old name → NotExited system w name
        still name none y d other e named f gone =
            let m = h.at y other f in
            elim (m.2) [
              | inl same ↦ none y d m.0 e named m.1 (sym same ∙ gone)
              | inr busy ↦ subst (IsBusy y) gone busy
            ]

        waits : (x : ℕ) (c : Component) (leaf : Leaf) → slice_get system.components x ≡ Some c → slice_get w.leaves x ≡ Some leaf → leaf.phase ≡ Pending
            → (name : List ℕ) × (c.node.after ≡ Some name) × NotExited system w name
        waits x c leaf e f pending =
            let m = h.at x leaf f in
            elim (m.2) [
              | inl same ↦ (let was = ready.waits x c m.0 e m.1 (sym same ∙ pending) in (was.0, was.1, still was.0 was.2))
              | inr busy ↦ absurd (subst (IsBusy x) pending busy)
            ]

-- STEPS

module _ (d : Doing) (t : TakesLeaf d) (component : slice_get d.system.components d.x ≡ Some d.component) where
  abbrev P : World → Type 0
  P w = Mild d.system d.world w

  abbrev Busy : Phase → Type 0
  Busy phase = IsBusy d.system d.world d.x phase

  here : P d.world
  here = record { at = λ y leaf e. (leaf, e, inl refl, λ i r. inl r) }

  -- a leaf that handles the same signal as before
  still_reacts : (leaf : Leaf) → leaf.reacting ≡ d.leaf.reacting → (i : ℕ) → leaf.reacting ≡ Some i
      → (t.old.reacting ≡ Some i) ⊎ ((c : Component) → slice_get d.system.components d.x ≡ Some c → serves c.node.provides c.node.signals ≡ true)
  still_reacts leaf same i r = inl (sym (same ∙ t.reacting) ∙ r)

  stands : (leaf : Leaf) → leaf.phase ≡ d.leaf.phase → leaf.reacting ≡ d.leaf.reacting → P (standing d leaf)
  stands leaf same reacting = mild_leaf d.system d.world d.world d.x leaf here (t.old, t.there, inl (same ∙ t.phase), still_reacts leaf reacting)

  goes_in : (w : World) (leaf : Leaf) → P w → Busy leaf.phase → leaf.reacting ≡ d.leaf.reacting → P (with_leaf w d.x leaf)
  goes_in w leaf h busy reacting = mild_leaf d.system d.world w d.x leaf h (t.old, t.there, inr busy, still_reacts leaf reacting)

  same_slot : (w : World) (slot_id : SlotId) (slot : Slot) → P w → P (with_slot w slot_id slot)
  same_slot = mild_slot d.system d.world

  same_settled : (w : World) → P w → Ends P (settled d.system d.x w)
  same_settled = mild_settled d.system d.world d.x

  instruct_ends : (i : Instruction) → Ends P (instruct d i)
  instruct_ends i = plain_instruct_by d P P here same_slot same_slot
      (λ w operands locals same hw. mild_leaf d.system d.world w d.x _ hw (t.old, t.there, inl t.phase, still_reacts d.leaf refl))
      (λ w operands hw. goes_in w _ hw tt refl)
      (λ w requests hw. record { at = hw.at }) same_settled (λ w sessions hw. record { at = hw.at }) i

  -- the end of a section
  module _ (has : serves d.component.node.provides d.component.node.signals ≡ true) where
    busy : (c : Component) → slice_get d.system.components d.x ≡ Some c → serves c.node.provides c.node.signals ≡ true
    busy c there = subst (λ (c : Component). serves c.node.provides c.node.signals ≡ true) (some_same (sym component ∙ there)) has

    served : P (standing d (serving d.leaf))
    served = mild_leaf d.system d.world d.world d.x (serving d.leaf) here (t.old, t.there, inr busy, λ i r. absurd (none_some r))

    -- a signal is taken
    reacted : (i : ℕ) (signals : List Signal) (list : Statements) → P (standing d (reacting_to d.leaf i signals list))
    reacted i signals list = mild_leaf d.system d.world d.world d.x (reacting_to d.leaf i signals list) here (t.old, t.there, inr tt, λ j r. inr busy)

  accept_ends : (r : Request) (rest : List Request) → Ends P (accept d r rest)
  accept_ends r rest = accept_by P d r rest (λ old there. record { at = (goes_in d.world (begun d r old) here tt refl).at })

  -- A LEAF EXITS

  released_at : (name : List ℕ) (cs : List Component) (leaves : List Leaf) (y : ℕ) (c : Component) (leaf : Leaf) → slice_get cs y ≡ Some c
      → slice_get (all_released name cs leaves) y ≡ Some leaf
      → (was : Leaf) × (slice_get leaves y ≡ Some was) × (leaf.phase ≡ released name c.node.after was.phase)
      × (leaf.reacting ≡ was.reacting)
  released_at name [] leaves y c leaf at e = absurd (none_some at)
  released_at name (b ∷ cs) [] y c leaf at e = absurd (none_some e)
  released_at name (b ∷ cs) (l ∷ leaves) zero c leaf at e = (
    l,
    refl,
    ap (λ (l : Leaf). l.phase) (sym (some_same e)) ∙ ap (λ (c : Component). released name c.node.after l.phase) (some_same at),
    ap (λ (l : Leaf). l.reacting) (sym (some_same e)),
  )
  released_at name (b ∷ cs) (l ∷ leaves) (suc y) c leaf at e = released_at name cs leaves y c leaf at e

  suits_released : (name : List ℕ) (after provides : Option (List ℕ)) (signals : ℕ) (phase : Phase) → Suits provides signals phase
      → Suits provides signals (released name after phase)
  suits_released name after provides signals Pending h = by (is_named name after)
    where
      by : (b : Bool) → Suits provides signals (cond b Running Pending)
      by true = tt
      by false = h
  suits_released name after provides signals Running h = h
  suits_released name after provides signals Blocked h = h
  suits_released name after provides signals Serving h = h
  suits_released name after provides signals Handling h = h
  suits_released name after provides signals Exited h = h

  -- who is pending still was pending, and does not start after this leaf
  still_pending : (name : List ℕ) (after : Option (List ℕ)) (phase : Phase) → released name after phase ≡ Pending
      → (phase ≡ Pending) × (is_named name after ≡ false)
  still_pending name after Pending e = by (is_named name after) refl e
    where
      by : (b : Bool) → is_named name after ≡ b → cond b Running Pending ≡ Pending → (Pending ≡ Pending) × (is_named name after ≡ false)
      by true f e = absurd (no e)
        where
          no : Running ≡ Pending → ⊥
          no e = cc
      by false f e = (refl, f)
  still_pending name after Running e = cc
  still_pending name after Blocked e = cc
  still_pending name after Serving e = cc
  still_pending name after Handling e = cc
  still_pending name after Exited e = cc

  still_exited : (name : List ℕ) (after : Option (List ℕ)) (phase : Phase) → released name after phase ≡ Exited → phase ≡ Exited
  still_exited name after Pending e = by (is_named name after) e
    where
      by : (b : Bool) → cond b Running Pending ≡ Exited → Pending ≡ Exited
      by true e = cc
      by false e = e
  still_exited name after Running e = e
  still_exited name after Blocked e = e
  still_exited name after Serving e = e
  still_exited name after Handling e = e
  still_exited name after Exited e = e

  module _ (ready : AreReady d.system d.world) where
    exit_ready : serves d.component.node.provides d.component.node.signals ≡ false → d.leaf.reacting ≡ None → AreReady d.system (exit_of d)
    exit_ready bare none = record { suits = suits; reacts = reacts; waits = waits }
      where
        name : List ℕ
        name = d.component.node.name

        left : List Leaf
        left = (standing d (exited d.leaf)).leaves

        suits : (y : ℕ) (c : Component) (leaf : Leaf) → slice_get d.system.components y ≡ Some c → slice_get (exit_of d).leaves y ≡ Some leaf
            → Suits c.node.provides c.node.signals leaf.phase
        suits y c leaf e f =
            let r = released_at d.component.node.name d.system.components (standing d (exited d.leaf)).leaves y c leaf e f in
            subst (Suits c.node.provides c.node.signals) (sym r.2) (suits_released d.component.node.name c.node.after c.node.provides c.node.signals r.0.phase
            (elim (set_get d.world.leaves d.x y (exited d.leaf) r.0 r.1) [
              | inl g ↦ subst (λ (l : Leaf). Suits c.node.provides c.node.signals l.phase) g.1
                  (ap (λ (c : Component). serves c.node.provides c.node.signals)
                  (some_same (sym e ∙ (ap (slice_get d.system.components) g.0 ∙ component))) ∙ bare)
              | inr g ↦ ready.suits y c r.0 e g
            ]))

        reacts : (y : ℕ) (c : Component) (leaf : Leaf) (i : ℕ) → slice_get d.system.components y ≡ Some c → slice_get (exit_of d).leaves y ≡ Some leaf
            → leaf.reacting ≡ Some i → serves c.node.provides c.node.signals ≡ true
        reacts y c leaf i e f q =
            let r = released_at d.component.node.name d.system.components (standing d (exited d.leaf)).leaves y c leaf e f in
            elim (set_get d.world.leaves d.x y (exited d.leaf) r.0 r.1) [
              | inl g ↦ absurd (none_some (sym none ∙ (ap (λ (l : Leaf). l.reacting) g.1 ∙ (sym r.3 ∙ q))))
              | inr g ↦ ready.reacts y c r.0 i e g (sym r.3 ∙ q)
            ]

        still : (other : List ℕ) → text_eq d.component.node.name other ≡ false → NotExited d.system d.world other → NotExited d.system (exit_of d) other
        still other differs none z c leaf e named f gone =
            let r = released_at d.component.node.name d.system.components (standing d (exited d.leaf)).leaves z c leaf e f in
            let was = still_exited d.component.node.name c.node.after r.0.phase (sym r.2 ∙ gone) in
            elim (set_get d.world.leaves d.x z (exited d.leaf) r.0 r.1) [
              | inl g ↦ (let same : d.component.node.name ≡ other =
                  ap (λ (c : Component). c.node.name) (some_same (sym component ∙ (ap (slice_get d.system.components) (sym g.0) ∙ e))) ∙ named in
                  true_is_false (sym (text_self d.component.node.name) ∙ (ap (text_eq d.component.node.name) same ∙ differs)))
              | inr g ↦ none z c r.0 e named g was
            ]
          where
            true_is_false : true ≡ false → ⊥
            true_is_false e = cc

        waits : (y : ℕ) (c : Component) (leaf : Leaf) → slice_get d.system.components y ≡ Some c → slice_get (exit_of d).leaves y ≡ Some leaf
            → leaf.phase ≡ Pending → (other : List ℕ) × (c.node.after ≡ Some other) × NotExited d.system (exit_of d) other
        waits y c leaf e f pending =
            let r = released_at d.component.node.name d.system.components (standing d (exited d.leaf)).leaves y c leaf e f in
            let was = still_pending d.component.node.name c.node.after r.0.phase (sym r.2 ∙ pending) in
            elim (set_get d.world.leaves d.x y (exited d.leaf) r.0 r.1) [
              | inl g ↦ absurd (exited_pending (ap (λ (l : Leaf). l.phase) g.1 ∙ was.0))
              | inr g ↦ (let w = ready.waits y c r.0 e g was.0 in
                  (w.0, w.1, still w.0 (ap (is_named d.component.node.name) (sym w.1) ∙ was.1) w.2))
            ]
          where
            exited_pending : Exited ≡ Pending → ⊥
            exited_pending e = cc

    -- ENDS

    abbrev R : World → Type 0
    R w = AreReady d.system w

    quiet : (r : Stepped) → Ends P r → Ends R r
    quiet r h = record { holds = λ w event e. mild_ready d.system d.world ready w (h.holds w event e) }

    main_ends : d.leaf.reacting ≡ None → (provides : Option (List ℕ)) (signals : ℕ) → d.component.node.provides ≡ provides
        → d.component.node.signals ≡ signals → Ends R (main_ended d provides signals)
    main_ends none (Some service) signals e f = quiet _ (gives _ Quiet (served (ap (λ p. serves p d.component.node.signals) e)))
    main_ends none None (suc n) e f = quiet _ (gives _ Quiet (served ((λ i. serves (e i) (f i)) ∙ lt-ltb 0 (suc n) (omega arith))))
    main_ends none None zero e f = when_ends R (no_link d.leaf.slots) WrongKind _ (gives (exit_of d) Finished (exit_ready (λ i. serves (e i) (f i)) none))

    section_ends : (current : Option Current) (reacting : Option ℕ) → d.leaf.reacting ≡ reacting
        → ((g : Current) → current ≡ Some g → is_some d.component.node.provides ≡ true) → Ends R (section_ended d current reacting)
    section_ends None None e h = main_ends e d.component.node.provides d.component.node.signals refl refl
    section_ends None (Some i) e h =
        quiet _ (gives _ Quiet (served (ready.reacts d.x d.component t.old i component t.there (sym t.reacting ∙ e))))
    section_ends (Some g) reacting e h = quiet _ (need_ends P (session_at d.world g.session) WrongKind _
        (reply_by d P same_slot (served (or_left (is_some d.component.node.provides) (nat_lt 0 d.component.node.signals) (h g refl)))
        (mild_active d.system d.world) (λ w k hw. record { at = hw.at }) g.session g.section))

    body_ends : ((g : Current) → d.leaf.current ≡ Some g → is_some d.component.node.provides ≡ true) → (loops : List Round) → Ends R (body_ended d loops)
    body_ends h [] = section_ends d.leaf.current d.leaf.reacting refl h
    body_ends h (r ∷ loops) = quiet _ (gives _ Quiet (stands _ (by (nat_lt (suc r.round) r.count)) (still (nat_lt (suc r.round) r.count))))
      where
        by : (b : Bool) → (cond b (record d.leaf { todo = r.body; loops = record r { round = suc r.round } ∷ loops })
            (record d.leaf { todo = r.rest; loops = loops })).phase ≡ d.leaf.phase
        by true = refl
        by false = refl

        still : (b : Bool) → (cond b (record d.leaf { todo = r.body; loops = record r { round = suc r.round } ∷ loops })
            (record d.leaf { todo = r.rest; loops = loops })).reacting ≡ d.leaf.reacting
        still true = refl
        still false = refl

perform_ready : (d : Doing) → TakesLeaf d → slice_get d.system.components d.x ≡ Some d.component → AreReady d.system d.world
    → ((g : Current) → d.leaf.current ≡ Some g → is_some d.component.node.provides ≡ true) → (todo : Statements) → Ends (AreReady d.system) (perform d todo)
perform_ready d t component ready provides Done = body_ends d t component ready provides d.leaf.loops
perform_ready d t component ready provides (Do i rest) =
    let e : Doing = record d { leaf = record d.leaf { todo = rest } } in
    let u : TakesLeaf e = record { old = t.old; there = t.there; slots = t.slots; phase = t.phase; current = t.current; reacting = t.reacting } in
    quiet e u component ready _ (instruct_ends e u component i)
perform_ready d t component ready provides (If arm other rest) =
    quiet d t component ready _ (pop_ends (P d t component) _ _ (λ a below. gives _ Quiet (stands d t component _ refl refl)))
perform_ready d t component ready provides (Loop count body rest) = quiet d t component ready _ (gives _ Quiet (stands d t component _ refl refl))

step_ready : (d : Doing) → TakesLeaf d → slice_get d.system.components d.x ≡ Some d.component → AreReady d.system d.world
    → ((g : Current) → d.leaf.current ≡ Some g → is_some d.component.node.provides ≡ true) → (phase : Phase) → d.leaf.phase ≡ phase
    → Ends (AreReady d.system) (step_in d phase)
step_ready d t component ready provides Pending phase = gives d.world Idle ready
step_ready d t component ready provides Running phase = perform_ready d t component ready provides d.leaf.todo
step_ready d t component ready provides Blocked phase = gives d.world Idle ready
step_ready d t component ready provides Serving phase = serve_by (first_signal d.leaf.signals)
  where
    by : (found : Option (Request × List Request)) → Ends (AreReady d.system) (accept_oldest d found)
    by None = gives d.world Idle ready
    by (Some p) = quiet d t component ready _ (accept_ends d t component p.0 p.1)

    has : serves d.component.node.provides d.component.node.signals ≡ true
    has = subst (Suits d.component.node.provides d.component.node.signals) (sym t.phase ∙ phase) (ready.suits d.x d.component t.old component t.there)

    serve_by : (found : Option (ℕ × List Signal)) → Ends (AreReady d.system) (serve d found)
    serve_by None = by (oldest d.world d.x d.world.requests)
    serve_by (Some p) = quiet d t component ready _ (need_ends (P d t component) (section_in (Reacting p.0) d.component.node.program.sections) MissingSection _
        (λ body. gives _ Quiet (reacted d t component has p.0 p.1 body)))
step_ready d t component ready provides Handling phase = perform_ready d t component ready provides d.leaf.todo
step_ready d t component ready provides Exited phase = gives d.world Idle ready

-- a leaf with a current request provides a service
abbrev pub CurrentProvides : System → World → Type 0
CurrentProvides system w = (x : ℕ) (c : Component) (leaf : Leaf) (g : Current) → slice_get system.components x ≡ Some c → slice_get w.leaves x ≡ Some leaf
    → leaf.current ≡ Some g → is_some c.node.provides ≡ true

next_by : (system : System) (w : World) (x : ℕ) (c : Option Component) (leaf : Option Leaf) → AreReady system w → CurrentProvides system w
    → slice_get system.components x ≡ c → slice_get w.leaves x ≡ leaf → Ends (AreReady system) (step_of system w x c leaf)
next_by system w x (Some c) (Some leaf) ready provides component there =
    step_ready (record { system = system; world = w; x = x; component = c; leaf = record leaf { steps = suc leaf.steps } })
    (record { old = leaf; there = there; slots = refl; phase = refl; current = refl; reacting = refl }) component ready
    (λ g e. provides x c leaf g component there e)
    leaf.phase refl
next_by system w x (Some c) None ready provides component there = gives w Idle ready
next_by system w x None leaf ready provides component there = gives w Idle ready

pub kept_ready : (system : System) (w : World) (x : ℕ) (new : World) (event : Event) → AreReady system w → CurrentProvides system w
    → next system w x ≡ Ok (new, event) → AreReady system new
kept_ready system w x new event ready provides stepped =
    (next_by system w x (slice_get system.components x) (slice_get w.leaves x) ready provides refl refl).holds new event stepped

-- THE START

-- where a leaf that starts after another provides nothing
pub start_ready : (system : System) → ((x : ℕ) (c : Component) (name : List ℕ) → slice_get system.components x ≡ Some c → c.node.after ≡ Some name
    → c.node.provides ≡ None) → AreReady system (start system)
start_ready system bare =
    record {
      suits = λ x c leaf e f.
          subst (λ (l : Leaf). Suits c.node.provides c.node.signals l.phase) (sym (start_at system.components x c leaf e f))
          (by c.node.provides c.node.after c.node.signals (λ name. bare x c name e));
      reacts = λ x c leaf i e f r. absurd (none_some (sym (ap (λ (l : Leaf). l.reacting) (start_at system.components x c leaf e f)) ∙ r));
      waits = λ x c leaf e f pending.
          (let named = after_of_pending c.node.after (sym (ap (λ (l : Leaf). l.phase) (start_at system.components x c leaf e f)) ∙ pending) in (
            named.0,
            named.1,
            λ y d other placed same there gone.
                never d.node.after (sym (ap (λ (l : Leaf). l.phase) (start_at system.components y d other placed there)) ∙ gone),
          ));
    }
  where
    by : (provides after : Option (List ℕ)) (signals : ℕ) → ((name : List ℕ) → after ≡ Some name → provides ≡ None) → Suits provides signals (first_phase after)
    by provides None signals h = tt
    by provides (Some name) signals h = h name refl

    after_of_pending : (after : Option (List ℕ)) → first_phase after ≡ Pending → (name : List ℕ) × (after ≡ Some name)
    after_of_pending None e = cc
    after_of_pending (Some name) e = (name, refl)

    never : (after : Option (List ℕ)) → first_phase after ≡ Exited → ⊥
    never None e = cc
    never (Some name) e = cc
