-- Each step keeps it that sessions stand in slots that suit their servers, where each session that a statement opens does.
use Rattle.std.proofs.Common.{◌≡◌, ℕ, zero, suc, inl, inr, List, [], ◌∷◌, Option, Some, None, Ok, refl, ap, sym, ◌∙◌}
use Rattle.std.proofs.Common.{subst}
use Rattle.std.specs.Prelude.{slice_get, slice_set}
use Rattle.std.proofs.lemmas.Bool.Decides.{eqb_tells}
use Rattle.gq_model.specs.declared.fault.Wrong.TheVariants.{WrongKind, ExceededQuota, MissingSection}
use Rattle.gq_model.specs.declared.phase.Phase.{Phase}
use Rattle.gq_model.specs.declared.phase.Phase.TheVariants.{Pending, Running, Blocked, Serving, Handling, Exited}
use Rattle.gq_model.specs.declared.program.Instruction.{Instruction}
use Rattle.gq_model.specs.declared.program.Instruction.TheVariants.{Open}
use Rattle.gq_model.specs.declared.program.OperandSlot.{OperandSlot}
use Rattle.gq_model.specs.machine.Amounts.{amount}
use Rattle.gq_model.specs.declared.section.Section.TheVariants.{Reacting}
use Rattle.gq_model.specs.machine.Program.{Statements, Done, Do, If, Loop, section_in}
use Rattle.gq_model.specs.machine.Scenario.{System, Component, interface_in, open_caps}
use Rattle.gq_model.specs.machine.Routes.{server_of}
use Rattle.gq_model.specs.machine.World.{Slot, Waiting, SlotId, In_leaf, In_session, In_object, Session, Ask, Ask_open, Ask_upgrade, Ask_close, Ask_call}
use Rattle.gq_model.specs.machine.World.{Request}
use Rattle.gq_model.specs.machine.World.{Current, Signal, Round, Leaf, World, joined, session_at, slot_at, slot_id_of, with_leaf, with_session, with_slot}
use Rattle.gq_model.specs.machine.World.{put_leaf_slot, put_session_slot, put_object}
use Rattle.gq_model.specs.machine.Doing.{Doing, Event, Idle, Quiet, Finished, standing, settled}
use Rattle.gq_model.specs.machine.Sums.{paid, with_peaks}
use Rattle.gq_model.specs.machine.Requests.{add_session, free_place, new_session, asked, open_session, upgrade}
use Rattle.gq_model.specs.machine.Step.{instruct, oldest, accept, accepted_as, serving, active_again, unblocked, exit_of, main_ended, section_ended}
use Rattle.gq_model.specs.machine.Step.{body_ended, perform, accept_oldest, first_signal, reacting_to, serve, step_in, step_of, next}
use Rattle.gq_model.proofs.Small_facts.{some_same, none_some}
use Rattle.gq_laws.proofs.step_shapes.Step_end_shapes.{Ends, gives, need_ends, need_found, when_ends, pop_ends, link_in_found, fill_ends}
use Rattle.gq_laws.proofs.session_links.Written_world_links.{set_else, session_here, session_else}
use Rattle.gq_laws.proofs.session_links.Linked_after_open.{add_here, add_else}
use Rattle.gq_laws.proofs.session_links.Linked_after_reply.{gone_here}
use Rattle.gq_laws.proofs.step_shapes.Step_end_worlds.{blocking, asked_world}
use Rattle.gq_laws.proofs.step_shapes.Step_change_shapes.{instruct_by, section_by, accept_by}

-- what is asked of a session's slot, its client and its server
module _ (Suits : SlotId → ℕ → ℕ → Type 0) where
  pub record AllSuit (w : World) : Type 0 where
    pub at : (k : ℕ) (s : Session) → session_at w k ≡ Some s → Suits s.slot_id s.client s.server

  suits_session : (w : World) (j : ℕ) (t s : Session) → session_at w j ≡ Some t → s.slot_id ≡ t.slot_id → s.client ≡ t.client → s.server ≡ t.server → AllSuit w
      → AllSuit (with_session w j s)
  suits_session w j t s e slot_id client server h = record {
    at = λ k v f. elim (eqb_tells k j) [
      | inl g ↦ subst (λ (v : Session). Suits v.slot_id v.client v.server)
          (some_same (sym (session_here w j t s e) ∙ (ap (session_at (with_session w j s)) (sym g.1) ∙ f)))
          (subst (λ q. Suits q s.client s.server) (sym slot_id)
          (subst (λ c. Suits t.slot_id c s.server) (sym client) (subst (Suits t.slot_id t.client) (sym server)
          (h.at j t e))))
      | inr g ↦ h.at k v (sym (session_else w j k s g.1) ∙ f)
    ];
  }

  suits_slot : (w : World) (q : SlotId) (slot : Slot) → AllSuit w → AllSuit (with_slot w q slot)
  suits_slot w (In_leaf x i) slot h = go (slice_get w.leaves x)
    where
      go : (o : Option Leaf) → AllSuit (put_leaf_slot w o x i slot)
      go None = h
      go (Some leaf) = record { at = h.at }
  suits_slot w (In_session j i) slot h = go (session_at w j) refl
    where
      go : (o : Option Session) → session_at w j ≡ o → AllSuit (put_session_slot w o j i slot)
      go None e = h
      go (Some s) e = suits_session w j s (record s { slots = slice_set s.slots i slot }) e refl refl refl h
  suits_slot w (In_object j) slot h = go (session_at w j) refl
    where
      go : (o : Option Session) → session_at w j ≡ o → AllSuit (put_object w o j slot)
      go None e = h
      go (Some s) e = suits_session w j s (record s { object = slot }) e refl refl refl h

  suits_added : (w : World) (s : Session) → Suits s.slot_id s.client s.server → AllSuit w → AllSuit (record w { sessions = add_session s w.sessions })
  suits_added w s own h = record {
    at = λ k v e. elim (eqb_tells k (free_place w.sessions)) [
      | inl f ↦ subst (λ (v : Session). Suits v.slot_id v.client v.server)
          (some_same (sym (add_here s w.sessions) ∙ (ap (λ j. joined (slice_get (add_session s w.sessions) j)) (sym f.1) ∙ e))) own
      | inr f ↦ h.at k v (sym (add_else s w.sessions k f.1) ∙ e)
    ];
  }

  suits_gone : (w : World) (j : ℕ) → AllSuit w → AllSuit (record w { sessions = slice_set w.sessions j None })
  suits_gone w j h = record {
    at = λ k v e. elim (eqb_tells k j) [
      | inl f ↦ absurd (none_some (sym (gone_here w.sessions j) ∙ (ap (λ k. joined (slice_get (slice_set w.sessions j None) k)) (sym f.1) ∙ e)))
      | inr f ↦ h.at k v (sym (ap joined (set_else w.sessions j k None f.1)) ∙ e)
    ];
  }

  suits_active : (w : World) (x : ℕ) (f : List ℕ → List ℕ) → AllSuit w → AllSuit (unblocked w x f)
  suits_active w x f h = go (slice_get w.leaves x)
    where
      go : (o : Option Leaf) → AllSuit (active_again w x f o)
      go None = h
      go (Some leaf) = record { at = h.at }

  suits_settled : (system : System) (x : ℕ) (w : World) → AllSuit w → Ends AllSuit (settled system x w)
  suits_settled system x w h = need_ends AllSuit (slice_get w.leaves x) WrongKind _
      (λ leaf. when_ends AllSuit (paid system (with_leaf w x (with_peaks w x leaf))) ExceededQuota (Ok (with_leaf w x (with_peaks w x leaf), Quiet))
      (gives (with_leaf w x (with_peaks w x leaf)) Quiet (record { at = h.at })))

  -- STEPS

  -- what a statement opens suits
  abbrev pub OpensSuited : Doing → Instruction → Type 0
  OpensSuited d (Open place service n) =
      (q : SlotId) (server : ℕ) → slot_id_of d.x d.leaf.current place ≡ Some q → server_of d.system d.component service ≡ Some server → Suits q d.x server
  OpensSuited d _ = Unit {0}

  abbrev pub FirstSuited : Doing → Statements → Type 0
  FirstSuited d Done = Unit {0}
  FirstSuited d (Do i rest) = OpensSuited d i
  FirstSuited d (If arm other rest) = Unit {0}
  FirstSuited d (Loop count body rest) = Unit {0}

  module _ (d : Doing) (h : AllSuit d.world) where
    stands : (leaf : Leaf) → AllSuit (standing d leaf)
    stands leaf = record { at = h.at }

    same_settled : (w : World) → AllSuit w → Ends AllSuit (settled d.system d.x w)
    same_settled = suits_settled d.system d.x

    asked_suits : (w : World) (q : SlotId) (j : ℕ) (ask : Ask) → AllSuit w → Ends AllSuit (asked d w q j ask)
    asked_suits w q j ask hw = when_ends AllSuit (paid d.system (asked_world d w q j ask)) ExceededQuota (Ok (asked_world d w q j ask, Quiet))
        (gives (asked_world d w q j ask) Quiet (record { at = (suits_slot (blocking d w) q (Waiting j) (record { at = hw.at })).at }))

    open_suits : (place : OperandSlot) (service : List ℕ) (n : ℕ) → OpensSuited d (Open place service n) → Ends AllSuit (open_session d place service n)
    open_suits place service n own =
        need_found AllSuit (slot_id_of d.x d.leaf.current place) WrongKind _
        (λ q named. fill_ends AllSuit AllSuit suits_slot d.world q (slot_at d.world q) (Waiting (free_place d.world.sessions)) _ h (λ w hw.
        need_found AllSuit (server_of d.system d.component service) WrongKind _ (λ server routed.
        let new = new_session d.x q server service (amount n (open_caps (interface_in service d.system.interfaces))) in
        asked_suits (record w { sessions = add_session new w.sessions }) q (free_place d.world.sessions) Ask_open
        (suits_added w new (own q server named routed) hw))))

    upgrade_suits : (place : OperandSlot) (n : ℕ) → Ends AllSuit (upgrade d place n)
    upgrade_suits place n =
        need_ends AllSuit (slot_id_of d.x d.leaf.current place) WrongKind _
        (λ q. link_in_found AllSuit d.world (slot_at d.world q) _ (λ j s there. asked_suits _ q j Ask_upgrade (suits_session d.world j s _ there refl
        refl refl h)))

    instruct_suits : (i : Instruction) → OpensSuited d i → Ends AllSuit (instruct d i)
    instruct_suits i own = instruct_by d AllSuit AllSuit h suits_slot suits_slot (λ w operands locals same hw. record { at = hw.at })
        (λ w operands hw. record { at = hw.at }) (λ w requests hw. record { at = hw.at }) same_settled i
        (λ place service n e. open_suits place service n (subst (OpensSuited d) e own)) (λ place n e. upgrade_suits place n)

    main_suits : (provides : Option (List ℕ)) (signals : ℕ) → Ends AllSuit (main_ended d provides signals)
    main_suits (Some service) signals = gives (standing d (serving d.leaf)) Quiet (stands (serving d.leaf))
    main_suits None (suc n) = gives (standing d (serving d.leaf)) Quiet (stands (serving d.leaf))
    main_suits None zero = when_ends AllSuit _ _ _ (gives (exit_of d) Finished (record { at = h.at }))

    section_suits : (current : Option Current) (reacting : Option ℕ) → Ends AllSuit (section_ended d current reacting)
    section_suits current reacting = section_by d AllSuit suits_slot (stands (serving d.leaf)) suits_active suits_gone
        (main_suits d.component.node.provides d.component.node.signals) current reacting

    body_suits : (loops : List Round) → Ends AllSuit (body_ended d loops)
    body_suits [] = section_suits d.leaf.current d.leaf.reacting
    body_suits (r ∷ loops) = gives _ Quiet (stands _)

    accept_suits : (r : Request) (rest : List Request) → Ends AllSuit (accept d r rest)
    accept_suits r rest = accept_by AllSuit d r rest (λ old there. record {
      at = (suits_session d.world r.session old (accepted_as d.system r.ask old) there (kept r.ask old).0 (kept r.ask old).1 (kept r.ask old).2 h).at;
    })
      where
        kept : (ask : Ask) (old : Session) → ((accepted_as d.system ask old).slot_id ≡ old.slot_id)
            × ((accepted_as d.system ask old).client ≡ old.client) × ((accepted_as d.system ask old).server ≡ old.server)
        kept Ask_open old = (refl, refl, refl)
        kept Ask_upgrade old = (refl, refl, refl)
        kept Ask_close old = (refl, refl, refl)
        kept (Ask_call value) old = (refl, refl, refl)

  perform_suits : (d : Doing) → AllSuit d.world → (todo : Statements) → FirstSuited d todo → Ends AllSuit (perform d todo)
  perform_suits d h Done first = body_suits d h d.leaf.loops
  perform_suits d h (Do i rest) first = instruct_suits (record d { leaf = record d.leaf { todo = rest } }) h i (suited i first)
    where
      suited : (i : Instruction) → OpensSuited d i → OpensSuited (record d { leaf = record d.leaf { todo = rest } }) i
      suited (Open place service n) first = first
      suited _ first = tt
  perform_suits d h (If arm other rest) first = pop_ends AllSuit _ _ (λ a below. gives _ Quiet (stands d h _))
  perform_suits d h (Loop count body rest) first = gives _ Quiet (stands d h _)

  step_suits : (d : Doing) → AllSuit d.world → FirstSuited d d.leaf.todo → (phase : Phase) → Ends AllSuit (step_in d phase)
  step_suits d h first Pending = gives d.world Idle h
  step_suits d h first Running = perform_suits d h d.leaf.todo first
  step_suits d h first Blocked = gives d.world Idle h
  step_suits d h first Serving = served (first_signal d.leaf.signals)
    where
      by : (found : Option (Request × List Request)) → Ends AllSuit (accept_oldest d found)
      by None = gives d.world Idle h
      by (Some p) = accept_suits d h p.0 p.1

      served : (signal : Option (ℕ × List Signal)) → Ends AllSuit (serve d signal)
      served None = by (oldest d.world d.x d.world.requests)
      served (Some p) = need_ends AllSuit (section_in (Reacting p.0) d.component.node.program.sections) MissingSection _
          (λ body. gives (standing d (reacting_to d.leaf p.0 p.1 body)) Quiet (stands d h (reacting_to d.leaf p.0 p.1 body)))
  step_suits d h first Handling = perform_suits d h d.leaf.todo first
  step_suits d h first Exited = gives d.world Idle h

  -- of each leaf with its component
  abbrev pub FirstsSuited : System → World → Type 0
  FirstsSuited system w = (x : ℕ) (c : Component) (leaf : Leaf) → slice_get system.components x ≡ Some c → slice_get w.leaves x ≡ Some leaf
      → FirstSuited (record { system = system; world = w; x = x; component = c; leaf = record leaf { steps = suc leaf.steps } }) leaf.todo

  next_by : (system : System) (w : World) (x : ℕ) (c : Option Component) (leaf : Option Leaf) → AllSuit w → FirstsSuited system w
      → slice_get system.components x ≡ c → slice_get w.leaves x ≡ leaf → Ends AllSuit (step_of system w x c leaf)
  next_by system w x (Some c) (Some leaf) h firsts component there =
      step_suits (record { system = system; world = w; x = x; component = c; leaf = record leaf { steps = suc leaf.steps } }) h
      (firsts x c leaf component there) leaf.phase
  next_by system w x (Some c) None h firsts component there = gives w Idle h
  next_by system w x None leaf h firsts component there = gives w Idle h

  pub kept_suited : (system : System) (w : World) (x : ℕ) (new : World) (event : Event) → AllSuit w → FirstsSuited system w
      → next system w x ≡ Ok (new, event) → AllSuit new
  kept_suited system w x new event h firsts stepped =
      (next_by system w x (slice_get system.components x) (slice_get w.leaves x) h firsts refl refl).holds new event stepped
