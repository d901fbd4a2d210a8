-- In each world that is reached sessions, slots, requests and current requests agree.
use Rattle.std.proofs.Common.{◌≡◌, ◌≢◌, ℕ, zero, suc, ◌⊎◌, inl, inr, Bool, true, false, cond, nat_lt, List, [], ◌∷◌, Option, Some, None, Ok, refl, ap, sym, ◌∙◌}
use Rattle.std.proofs.Common.{subst}
use Rattle.std.specs.Prelude.{slice_get}
use Rattle.std.proofs.lemmas.Bool.Decides.{eqb_tells}
use Rattle.gq_model.specs.machine.Program.{Statements, Done, Do, If, Loop, section_in}
use Rattle.gq_model.specs.declared.program.Instruction.{Instruction}
use Rattle.gq_model.specs.declared.program.Instruction.TheVariants.{Say, Out, Operands, Make, MakePool, Load}
use Rattle.gq_model.specs.declared.program.Instruction.TheVariants.{Store, Free, Take, Give, Peek, Poke, Open, Upgrade, Call, Close}
use Rattle.gq_model.specs.declared.phase.Phase.{Phase}
use Rattle.gq_model.specs.declared.phase.Phase.TheVariants.{Pending, Running, Blocked, Serving, Handling, Exited}
use Rattle.gq_model.specs.declared.fault.Wrong.TheVariants.{WrongKind, MissingSection}
use Rattle.gq_model.specs.machine.Scenario.{System, Component}
use Rattle.gq_model.specs.machine.World.{Slot, Empty, Bytes, Pool, Link, Waiting, SlotId, In_leaf, In_session, In_object, Request, Current, Round, Leaf}
use Rattle.gq_model.specs.machine.World.{World, Signal}
use Rattle.gq_model.specs.machine.World.{session_at, leaf_slot, slot_at, first_phase, start_leaves, start}
use Rattle.gq_model.specs.machine.Doing.{Doing, Event, Quiet, Finished, Stepped, standing}
use Rattle.gq_model.specs.machine.Step.{oldest, no_link, released, all_released, is_named, exited, exit_of, serving, instruct, main_ended, section_ended}
use Rattle.gq_model.specs.machine.Step.{serve, take_signal, first_signal, reacting_to}
use Rattle.gq_model.specs.machine.Step.{body_ended, perform, accept_oldest, step_in, step_of, next}
use Rattle.gq_laws.specs.Session_links.{Naming, Leads, Waits, naming_in, Stance, stance, stance_in, Links, links, Belongs, Fits, AreLinked, IsLinkedWorld}
use Rattle.gq_laws.proofs.step_shapes.Step_end_shapes.{Ends, gives, need_found, pop_ends, need_ends}
use Rattle.gq_model.proofs.Small_facts.{some_same, none_some}
use Rattle.gq_laws.proofs.session_links.Asked_request_changes.{same_phase}
use Rattle.gq_laws.proofs.session_links.Reply_changes.{Steps_aside, calm_linked}
use Rattle.gq_laws.proofs.session_links.Written_world_links.{set_here, set_else}
use Rattle.gq_laws.proofs.session_links.Link_free_statements.{stood, Same, stands, when_found, quiet_ends}
use Rattle.gq_laws.specs.Inside_steps.{TakesLeaf}
use Rattle.gq_laws.proofs.session_links.Linked_after_request.{upgrade_ends, call_ends, close_ends}
use Rattle.gq_laws.proofs.session_links.Linked_after_open.{none_named, open_ends}
use Rattle.gq_laws.proofs.session_links.Linked_after_accept.{same_linked, stand_slots, stand_stance, stand_stances, accept_ends, no_current_serving, fits_now}
use Rattle.gq_laws.proofs.session_links.Linked_after_reply.{reply_ends}
use Rattle.gq_model.proofs.Small_facts.{some_none}
use Rattle.gq_laws.proofs.step_shapes.Step_end_worlds.{running_blocked, handling_blocked, serving_blocked}
use Rattle.gq_laws.proofs.session_links.Linked_after_change.{handling_with}
use Rattle.gq_model.specs.declared.section.Section.TheVariants.{Reacting}

-- a step that leaves the same links
ends_same : (system : System) (l : Links) (r : Stepped) → AreLinked system l → Ends (Same l) r → Ends (IsLinkedWorld system) r
ends_same system l r h e = record { holds = λ w event q. same_linked system l w h (e.holds w event q) }

-- THE END OF `main`

-- a leaf that exits has no link
no_link_leads : (slots : List Slot) → no_link slots ≡ true → (i k : ℕ) → naming_in (slice_get slots i) ≡ Some (Leads k) → ⊥
no_link_leads [] none i k e = none_some e
no_link_leads (Empty ∷ rest) none zero k e = none_some e
no_link_leads (Empty ∷ rest) none (suc i) k e = no_link_leads rest none i k e
no_link_leads (Bytes form n bytes ∷ rest) none zero k e = none_some e
no_link_leads (Bytes form n bytes ∷ rest) none (suc i) k e = no_link_leads rest none i k e
no_link_leads (Pool n entries ∷ rest) none zero k e = none_some e
no_link_leads (Pool n entries ∷ rest) none (suc i) k e = no_link_leads rest none i k e
no_link_leads (Waiting m ∷ rest) none zero k e = absurd (waits_leads e)
  where
    waits_leads : {m k : ℕ} → Some (Waits m) ≡ Some (Leads k) → ⊥
    waits_leads e = cc
no_link_leads (Waiting m ∷ rest) none (suc i) k e = no_link_leads rest none i k e
no_link_leads (Link m ∷ rest) none i k e = absurd cc

-- release changes no slot, and no phase but Pending
released_slot : (name : List ℕ) (cs : List Component) (leaves : List Leaf) (y i : ℕ)
    → leaf_slot (slice_get (all_released name cs leaves) y) i ≡ leaf_slot (slice_get leaves y) i
released_slot name [] leaves y i = refl
released_slot name (c ∷ cs) [] y i = refl
released_slot name (c ∷ cs) (leaf ∷ leaves) zero i = refl
released_slot name (c ∷ cs) (leaf ∷ leaves) (suc y) i = released_slot name cs leaves y i

abbrev Releases : Option Stance → Option Stance → Type 0
Releases before after = (after ≡ before) ⊎ ((current : Option Current) × (before ≡ Some (stance Pending current)) × (after ≡ Some (stance Running current)))

release_by : (b : Bool) (current : Option Current) → Releases (Some (stance Pending current)) (Some (stance (cond b Running Pending) current))
release_by true current = inr (current, refl, refl)
release_by false current = inl refl

release_phase : (name : List ℕ) (after : Option (List ℕ)) (phase : Phase) (current : Option Current)
    → Releases (Some (stance phase current)) (Some (stance (released name after phase) current))
release_phase name after Pending current = release_by (is_named name after) current
release_phase name after Running current = inl refl
release_phase name after Blocked current = inl refl
release_phase name after Serving current = inl refl
release_phase name after Handling current = inl refl
release_phase name after Exited current = inl refl

released_stance : (name : List ℕ) (cs : List Component) (leaves : List Leaf) (y : ℕ)
    → Releases (stance_in (slice_get leaves y)) (stance_in (slice_get (all_released name cs leaves) y))
released_stance name [] leaves y = inl refl
released_stance name (c ∷ cs) [] y = inl refl
released_stance name (c ∷ cs) (leaf ∷ leaves) zero = release_phase name c.node.after leaf.phase leaf.current
released_stance name (c ∷ cs) (leaf ∷ leaves) (suc y) = released_stance name cs leaves y

module _ (d : Doing) (t : TakesLeaf d) (active : d.leaf.phase ≢ Blocked) (h : AreLinked d.system (links d.world)) where
  abbrev L : Links
  L = links d.world

  abbrev P : World → Type 0
  P = IsLinkedWorld d.system

  module _ (current : d.leaf.current ≡ None) where
    stood_free : L.stances d.x ≡ Some (stance d.leaf.phase None)
    stood_free = stood d t ∙ ap (λ o. Some (stance d.leaf.phase o)) current

    -- the leaf stands in another phase that fits no current request, with the same slots
    aside_linked : (leaf : Leaf) → leaf.slots ≡ d.leaf.slots → leaf.current ≡ None → leaf.phase ≢ Blocked → Fits leaf.phase None
        → AreLinked d.system (links (standing d leaf))
    aside_linked leaf slots none calm fits =
        calm_linked d.system L (links (standing d leaf)) h
        (record {
          slots = λ r. ap naming_in (stand_slots d t h leaf slots r);
          sessions = λ j. refl;
          requests = refl;
          stances = λ y. elim (eqb_tells y d.x) [
            | inl e ↦ inr
                (subst (λ y. Steps_aside (L.stances y) (stance_in (slice_get (standing d leaf).leaves y))) (sym e.1) aside)
            | inr e ↦ inl (stand_stances d t h leaf y e.1)
          ];
        })
      where
        aside : Steps_aside (L.stances d.x) (stance_in (slice_get (standing d leaf).leaves d.x))
        aside = record {
          old = d.leaf.phase;
          new = leaf.phase;
          stood = stood_free;
          stands = stand_stance d t h leaf ∙ ap (λ o. Some (stance leaf.phase o)) none;
          old_ne = active;
          new_ne = calm;
          new_fits = fits;
        }

    serving_linked : AreLinked d.system (links (standing d (serving d.leaf)))
    serving_linked = aside_linked (serving d.leaf) refl refl (λ e. cc) tt

    -- none of its slots names a session
    pub unnamed : no_link d.leaf.slots ≡ true → (i : ℕ) → L.slots (In_leaf d.x i) ≡ None
    unnamed none i = go (L.slots (In_leaf d.x i)) refl
      where
        own : slot_at d.world (In_leaf d.x i) ≡ slice_get d.leaf.slots i
        own = ap (λ o. leaf_slot o i) t.there ∙ ap (λ s. slice_get s i) (sym t.slots)

        go : (o : Option Naming) → L.slots (In_leaf d.x i) ≡ o → L.slots (In_leaf d.x i) ≡ None
        go None e = e
        go (Some (Leads k)) e = absurd (no_link_leads d.leaf.slots none i k (sym (ap naming_in own) ∙ e))
        go (Some (Waits k)) e =
            let s = h.named (In_leaf d.x i) (Waits k) e in
            let own_client : d.x ≡ s.0.client = subst (λ q. Belongs L q s.0.client) s.2 (h.belongs k s.0 s.1) in
            let w = h.waits k s.0 s.1 (ap L.slots s.2 ∙ e) in
            absurd (active (same_phase (sym stood_free ∙ ap L.stances own_client ∙ w.1)))

    abbrev left : World
    left = standing d (exited d.leaf)

    exit_slots : no_link d.leaf.slots ≡ true → (r : SlotId) → naming_in (slot_at (exit_of d) r) ≡ naming_in (slot_at d.world r)
    exit_slots none (In_leaf y i) = ap naming_in (released_slot d.component.node.name d.system.components left.leaves y i)
        ∙ (elim (eqb_tells y d.x) [ inl e ↦ here e.1 | inr e ↦ ap (λ o. naming_in (leaf_slot o i)) (set_else d.world.leaves d.x y (exited d.leaf) e.1) ])
      where
        here : y ≡ d.x → naming_in (leaf_slot (slice_get left.leaves y) i) ≡ naming_in (slot_at d.world (In_leaf y i))
        here e =
            ap (λ y. naming_in (leaf_slot (slice_get left.leaves y) i)) e
            ∙ (ap (λ o. naming_in (leaf_slot o i)) (set_here d.world.leaves d.x (exited d.leaf) t.old t.there)
            ∙ (none_named 64 i ∙ (sym (unnamed none i) ∙ ap (λ y. naming_in (slot_at d.world (In_leaf y i))) (sym e))))
    exit_slots none (In_session k i) = refl
    exit_slots none (In_object k) = refl

    exit_stances : (y : ℕ) → (stance_in (slice_get (exit_of d).leaves y) ≡ L.stances y) ⊎ Steps_aside (L.stances y) (stance_in (slice_get (exit_of d).leaves y))
    exit_stances y = elim (eqb_tells y d.x) [
      | inl e ↦ inr (subst (λ y. Steps_aside (L.stances y) (stance_in (slice_get (exit_of d).leaves y))) (sym e.1) here)
      | inr e ↦ there e.1
    ]
      where
        pending_exited : {o : Option Current} → Some (stance Exited None) ≡ Some (stance Pending o) → ⊥
        pending_exited e = phases (same_phase e)
          where
            phases : Exited ≡ Pending → ⊥
            phases e = cc

        gone : stance_in (slice_get (exit_of d).leaves d.x) ≡ Some (stance Exited None)
        gone =
            elim (released_stance d.component.node.name d.system.components left.leaves d.x) [
              | inl e ↦ e ∙ (stand_stance d t h (exited d.leaf) ∙ ap (λ o. Some (stance Exited o)) current)
              | inr e ↦ absurd (pending_exited (sym (stand_stance d t h (exited d.leaf) ∙ ap (λ o. Some (stance Exited o)) current) ∙ e.1))
            ]

        here : Steps_aside (L.stances d.x) (stance_in (slice_get (exit_of d).leaves d.x))
        here = record { old = d.leaf.phase; new = Exited; stood = stood_free; stands = gone; old_ne = active; new_ne = λ e. cc; new_fits = tt }

        no_current_pending : (o : Option Current) → Fits Pending o → o ≡ None
        no_current_pending None f = refl
        no_current_pending (Some g) f = absurd f

        there : y ≢ d.x → (stance_in (slice_get (exit_of d).leaves y) ≡ L.stances y) ⊎ Steps_aside (L.stances y) (stance_in (slice_get (exit_of d).leaves y))
        there ne = go (released_stance d.component.node.name d.system.components left.leaves y)
          where
            go : Releases (stance_in (slice_get left.leaves y)) (stance_in (slice_get (exit_of d).leaves y))
                → (stance_in (slice_get (exit_of d).leaves y) ≡ L.stances y) ⊎ Steps_aside (L.stances y) (stance_in (slice_get (exit_of d).leaves y))
            go (inl e) = inl (e ∙ stand_stances d t h (exited d.leaf) y ne)
            go (inr e) =
                let was = sym (stand_stances d t h (exited d.leaf) y ne) ∙ e.1 in
                let none = no_current_pending e.0 (h.fits y (stance Pending e.0) was) in
                inr (record {
                  old = Pending;
                  new = Running;
                  stood = was ∙ ap (λ o. Some (stance Pending o)) none;
                  stands = e.2
                      ∙ ap (λ o. Some (stance Running o)) none;
                  old_ne = λ e. cc;
                  new_ne = λ e. cc;
                  new_fits = tt;
                })

    exit_linked : no_link d.leaf.slots ≡ true → AreLinked d.system (links (exit_of d))
    exit_linked none = calm_linked d.system L (links (exit_of d)) h
        (record { slots = exit_slots none; sessions = λ j. refl; requests = refl; stances = exit_stances })

    main_ends : (provides : Option (List ℕ)) (signals : ℕ) → Ends P (main_ended d provides signals)
    main_ends (Some service) signals = gives _ Quiet serving_linked
    main_ends None (suc n) = gives _ Quiet serving_linked
    main_ends None zero = when_found P (no_link d.leaf.slots) WrongKind _ (λ none. gives (exit_of d) Finished (exit_linked none))

  section_ends : (current : Option Current) (reacting : Option ℕ) → d.leaf.current ≡ current → Ends P (section_ended d current reacting)
  section_ends None None e = main_ends e d.component.node.provides d.component.node.signals
  section_ends None (Some i) e = gives _ Quiet (serving_linked e)
  section_ends (Some g) reacting e = need_found P (session_at d.world g.session) WrongKind _
      (λ s there. reply_ends d t h (handling_with d.leaf.phase g
      (subst (Fits d.leaf.phase) e (h.fits d.x (stance d.leaf.phase d.leaf.current) (stood d t))) active) g e s there g.section)

  body_ends : (loops : List Round) → Ends P (body_ended d loops)
  body_ends [] = section_ends d.leaf.current d.leaf.reacting refl
  body_ends (r ∷ loops) = by_round (nat_lt (suc r.round) r.count)
    where
      by_round : (b : Bool) → Ends P (Ok (
        standing d (cond b (record d.leaf { todo = r.body; loops = record r { round = suc r.round } ∷ loops })
            (record d.leaf { todo = r.rest; loops = loops })),
        Quiet,
      ))
      by_round true = gives _ Quiet (same_linked d.system L _ h (stands d t _ refl refl refl))
      by_round false = gives _ Quiet (same_linked d.system L _ h (stands d t _ refl refl refl))

  instruct_ends : slice_get d.system.components d.x ≡ Some d.component → (i : Instruction) → Ends P (instruct d i)
  instruct_ends component (Open place service n) = open_ends d t active h component place service n
  instruct_ends component (Upgrade place n) = upgrade_ends d t active h place n
  instruct_ends component (Call place) = call_ends d t active h place
  instruct_ends component (Close place) = close_ends d t active h place
  instruct_ends component (Say text) = ends_same d.system L _ h (quiet_ends d t h (Say text) tt)
  instruct_ends component Out = ends_same d.system L _ h (quiet_ends d t h Out tt)
  instruct_ends component (Operands o) = ends_same d.system L _ h (quiet_ends d t h (Operands o) tt)
  instruct_ends component (Make form place n) = ends_same d.system L _ h (quiet_ends d t h (Make form place n) tt)
  instruct_ends component (MakePool place n m) = ends_same d.system L _ h (quiet_ends d t h (MakePool place n m) tt)
  instruct_ends component (Load width place) = ends_same d.system L _ h (quiet_ends d t h (Load width place) tt)
  instruct_ends component (Store width place) = ends_same d.system L _ h (quiet_ends d t h (Store width place) tt)
  instruct_ends component (Free place) = ends_same d.system L _ h (quiet_ends d t h (Free place) tt)
  instruct_ends component (Take place) = ends_same d.system L _ h (quiet_ends d t h (Take place) tt)
  instruct_ends component (Give place) = ends_same d.system L _ h (quiet_ends d t h (Give place) tt)
  instruct_ends component (Peek place) = ends_same d.system L _ h (quiet_ends d t h (Peek place) tt)
  instruct_ends component (Poke place) = ends_same d.system L _ h (quiet_ends d t h (Poke place) tt)

-- STEPS

module _ (d : Doing) (t : TakesLeaf d) (h : AreLinked d.system (links d.world)) (component : slice_get d.system.components d.x ≡ Some d.component) where
  perform_ends : d.leaf.phase ≢ Blocked → (todo : Statements) → Ends (IsLinkedWorld d.system) (perform d todo)
  perform_ends active Done = body_ends d t active h d.leaf.loops
  perform_ends active (Do i rest) = instruct_ends (record d { leaf = record d.leaf { todo = rest } })
      (record { old = t.old; there = t.there; slots = t.slots; phase = t.phase; current = t.current; reacting = t.reacting }) active h component i
  perform_ends active (If arm other rest) = pop_ends (IsLinkedWorld d.system) _ _
      (λ a below. gives _ Quiet (same_linked d.system (links d.world) _ h (stands d t _ refl refl refl)))
  perform_ends active (Loop count body rest) = gives _ Quiet (same_linked d.system (links d.world) _ h (stands d t _ refl refl refl))

  oldest_ends : d.leaf.phase ≡ Serving → (found : Option (Request × List Request)) → oldest d.world d.x d.world.requests ≡ found
      → Ends (IsLinkedWorld d.system) (accept_oldest d found)
  oldest_ends serves None e = gives _ _ h
  oldest_ends serves (Some p) e = accept_ends d t h serves p.0 p.1 e

  -- who serves has no current request
  signal_ends : d.leaf.phase ≡ Serving → (i : ℕ) (signals : List Signal) → Ends (IsLinkedWorld d.system) (take_signal d i signals)
  signal_ends serves i signals = need_ends (IsLinkedWorld d.system) (section_in (Reacting i) d.component.node.program.sections) MissingSection _
      (λ body. gives _ Quiet (aside_linked d t (λ b. serving_blocked (sym serves ∙ b)) h none (reacting_to d.leaf i signals body) refl none (λ e. cc) tt))
    where
      none : d.leaf.current ≡ None
      none = no_current_serving d t h d.leaf.current (subst (λ p. Fits p d.leaf.current) serves (fits_now d t h))

  serve_ends : d.leaf.phase ≡ Serving → (found : Option (ℕ × List Signal)) → Ends (IsLinkedWorld d.system) (serve d found)
  serve_ends serves None = oldest_ends serves (oldest d.world d.x d.world.requests) refl
  serve_ends serves (Some p) = signal_ends serves p.0 p.1

  step_ends : (phase : Phase) → d.leaf.phase ≡ phase → Ends (IsLinkedWorld d.system) (step_in d phase)
  step_ends Pending e = gives _ _ h
  step_ends Running e = perform_ends (λ b. running_blocked (sym e ∙ b)) d.leaf.todo
  step_ends Blocked e = gives _ _ h
  step_ends Serving e = serve_ends e (first_signal d.leaf.signals)
  step_ends Handling e = perform_ends (λ b. handling_blocked (sym e ∙ b)) d.leaf.todo
  step_ends Exited e = gives _ _ h

next_by : (system : System) (w : World) (x : ℕ) (c : Option Component) (leaf : Option Leaf) → IsLinkedWorld system w → slice_get system.components x ≡ c
    → slice_get w.leaves x ≡ leaf → Ends (IsLinkedWorld system) (step_of system w x c leaf)
next_by system w x (Some c) (Some leaf) h component there =
    step_ends (record { system = system; world = w; x = x; component = c; leaf = record leaf { steps = suc leaf.steps } })
    (record { old = leaf; there = there; slots = refl; phase = refl; current = refl; reacting = refl }) h component leaf.phase refl
next_by system w x (Some c) None h component there = gives _ _ h
next_by system w x None leaf h component there = gives _ _ h

-- each step keeps them in agreement
pub kept_linked : (system : System) (w : World) (x : ℕ) (new : World) (event : Event) → IsLinkedWorld system w → next system w x ≡ Ok (new, event)
    → IsLinkedWorld system new
kept_linked system w x new event h stepped = (next_by system w x (slice_get system.components x) (slice_get w.leaves x) h refl refl).holds new event stepped

-- THE START

start_slots : (cs : List Component) (x i : ℕ) → naming_in (leaf_slot (slice_get (start_leaves cs) x) i) ≡ None
start_slots [] x i = refl
start_slots (c ∷ cs) zero i = none_named 64 i
start_slots (c ∷ cs) (suc x) i = start_slots cs x i

-- a leaf begins in a phase that fits no current request, and is not blocked
record Begins (u : Stance) : Type 0 where
  free : u.current ≡ None
  fits : Fits u.phase u.current
  active : u.phase ≢ Blocked

first_begins : (after : Option (List ℕ)) → Begins (stance (first_phase after) None)
first_begins None = record { free = refl; fits = tt; active = λ e. cc }
first_begins (Some name) = record { free = refl; fits = tt; active = λ e. cc }

start_stances : (cs : List Component) (x : ℕ) (u : Stance) → stance_in (slice_get (start_leaves cs) x) ≡ Some u → Begins u
start_stances [] x u e = absurd (none_some e)
start_stances (c ∷ cs) zero u e = subst Begins (some_same e) (first_begins c.node.after)
start_stances (c ∷ cs) (suc x) u e = start_stances cs x u e

pub start_linked : (system : System) → IsLinkedWorld system (start system)
start_linked system =
    record {
      stands = λ k s e. absurd (none_some e);
      named = λ q n e. absurd (none_named_at q n e);
      belongs = λ k s e. absurd (none_some e);
      routed = λ k s e. absurd (none_some e);
      opens = λ k s e. absurd (none_some e);
      objects = λ k s e. absurd (none_some e);
      asked = tt;
      handles = λ x phase current e. absurd (some_none (start_stances system.components x (stance phase (Some current)) e).free);
      fits = λ x u e. (start_stances system.components x u e).fits;
      waits = λ k s e. absurd (none_some e);
      alone = λ k m s u e. absurd (none_some e);
      blocked = λ x current e. absurd ((start_stances system.components x (stance Blocked current) e).active refl);
    }
  where
    none_named_at : (q : SlotId) (n : Naming) → naming_in (slot_at (start system) q) ≡ Some n → ⊥
    none_named_at (In_leaf x i) n e = none_some (sym (start_slots system.components x i) ∙ e)
    none_named_at (In_session k i) n e = none_some e
    none_named_at (In_object k) n e = none_some e
