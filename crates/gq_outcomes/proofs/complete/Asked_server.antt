-- A step asks the server that the next statement names, and no other.
use Rattle.std.proofs.Common.{◌≡◌, ◌⊎◌, inl, inr, ℕ, zero, suc, ◌++◌, List, [], ◌∷◌, Option, Some, None, Ok}
use Rattle.std.proofs.Common.{refl, ap, sym, ◌∙◌, subst}
use Rattle.std.specs.Prelude.{slice_get, slice_set}
use Rattle.std.proofs.lemmas.Bool.Decides.{eqb_tells}
use Rattle.gq_model.specs.declared.fault.Wrong.TheVariants.{WrongKind, ExceededQuota}
use Rattle.gq_model.specs.declared.phase.Phase.TheVariants.{Running, Handling}
use Rattle.gq_model.specs.declared.program.Instruction.{Instruction}
use Rattle.gq_model.specs.declared.program.Instruction.TheVariants.{Say, Operands, Open, Upgrade, Call, Close}
use Rattle.gq_model.specs.declared.program.OperandSlot.{OperandSlot}
use Rattle.gq_model.specs.machine.Amounts.{amount}
use Rattle.gq_model.specs.machine.Doing.{Doing, Event, Quiet, Finished, Stepped, need, settled, standing, with_operands}
use Rattle.gq_model.specs.machine.Program.{Statements, Done, Do, If, Loop}
use Rattle.gq_model.specs.machine.Requests.{add_session, asked, free_place, link_in, new_session, open_session, upgrade, call, close}
use Rattle.gq_model.specs.machine.Routes.{server_of}
use Rattle.gq_model.specs.machine.Scenario.{Component, System, interface_in, open_caps}
use Rattle.gq_model.specs.machine.Step.{active_again, body_ended, exit_of, instruct, main_ended, next, no_link, perform, serving, step_in, step_of, unblocked}
use Rattle.gq_model.specs.machine.Sums.{paid}
use Rattle.gq_model.specs.machine.World.{Waiting, Link, Slot, SlotId, In_leaf, In_session, In_object, Session, Ask, Ask_open, Ask_upgrade, Ask_close}
use Rattle.gq_model.specs.machine.World.{Ask_call, Request}
use Rattle.gq_model.specs.machine.World.{Round, Leaf, World, session_at, slot_at, slot_id_of, with_leaf, with_session, with_slot}
use Rattle.gq_model.specs.machine.World.{put_leaf_slot, put_session_slot, put_object}
use Rattle.gq_model.proofs.Small_facts.{some_same}
use Rattle.gq_laws.proofs.Group_slots_sessions.{slot_free}
use Rattle.gq_laws.proofs.session_links.Linked_after_open.{add_here}
use Rattle.gq_laws.proofs.session_links.Written_world_links.{session_here, session_else}
use Rattle.gq_laws.proofs.step_shapes.Step_end_shapes.{Ends, fails, gives, need_ends, when_ends, pop_ends, push_ends, link_in_ends}
use Rattle.gq_laws.proofs.step_shapes.Step_end_shapes.{absent_ends, fill_ends, bytes_in_ends, pool_in_ends}
use Rattle.gq_laws.proofs.step_shapes.Step_end_worlds.{asked_world, blocking}
use Rattle.gq_laws.proofs.step_shapes.Step_change_shapes.{section_by, slot_by}
use Rattle.gq_outcomes.specs.Choices.{asked_by, next_asked, server_at_slot_id, server_behind, server_in}

-- a session with a server
abbrev HasServer : ℕ → ℕ → World → Type 0
HasServer k server w = (s : Session) × (session_at w k ≡ Some s) × (s.server ≡ server)

module _ (k server : ℕ) where
  session_has : (w : World) (j : ℕ) (t s : Session) → session_at w j ≡ Some t → s.server ≡ t.server → HasServer k server w
      → HasServer k server (with_session w j s)
  session_has w j t s e same h = elim (eqb_tells k j) [
    | inl q ↦ (
      s,
      ap (session_at (with_session w j s)) q.1 ∙ session_here w j t s e,
      same ∙ (ap (λ (s : Session). s.server) (some_same (sym e ∙ (ap (session_at w) (sym q.1) ∙ h.1))) ∙ h.2),
    )
    | inr q ↦ (h.0, session_else w j k s q.1 ∙ h.1, h.2)
  ]

  slot_has : (w : World) (q : SlotId) (slot : Slot) → HasServer k server w → HasServer k server (with_slot w q slot)
  slot_has w (In_leaf x i) slot h = go (slice_get w.leaves x)
    where
      go : (o : Option Leaf) → HasServer k server (put_leaf_slot w o x i slot)
      go None = h
      go (Some leaf) = (h.0, h.1, h.2)
  slot_has w (In_session j i) slot h = go (session_at w j) refl
    where
      go : (o : Option Session) → session_at w j ≡ o → HasServer k server (put_session_slot w o j i slot)
      go None e = h
      go (Some s) e = session_has w j s (record s { slots = slice_set s.slots i slot }) e refl h
  slot_has w (In_object j) slot h = go (session_at w j) refl
    where
      go : (o : Option Session) → session_at w j ≡ o → HasServer k server (put_object w o j slot)
      go None e = h
      go (Some s) e = session_has w j s (record s { object = slot }) e refl h

-- one request more, to this server
pub record Adds (w0 : World) (to : Option ℕ) (w : World) : Type 0 where
  pub request : Request
  pub is : w.requests ≡ w0.requests ++ request ∷ []
  pub session : Session
  pub there : session_at w request.session ≡ Some session
  pub server : to ≡ Some session.server

-- or none
pub record Asks (w0 : World) (to : Option ℕ) (w : World) : Type 0 where
  pub how : (w.requests ≡ w0.requests) ⊎ Adds w0 to w

module _ (d : Doing) where
  -- no more is asked, and the same place is free
  abbrev Same : World → Type 0
  Same w = (w.requests ≡ d.world.requests) × (free_place w.sessions ≡ free_place d.world.sessions)

  abbrev Still : World → Type 0
  Still w = w.requests ≡ d.world.requests

  still_slot : (w : World) (q : SlotId) (slot : Slot) → Still w → Still (with_slot w q slot)
  still_slot = slot_by Still (λ w x leaf slots e h. h) (λ w sessions h. h)

  same_slot : (w : World) (q : SlotId) (slot : Slot) → Same w → Same (with_slot w q slot)
  same_slot w q slot h = (still_slot w q slot h.0, slot_free w q slot ∙ h.1)

  weaken : (to : Option ℕ) (r : Stepped) → Ends Still r → Ends (Asks d.world to) r
  weaken to r h = record { holds = λ w e is. record { how = inl (h.holds w e is) } }

  asked_adds : (leaf : Leaf) (w : World) (q : SlotId) (k : ℕ) (ask : Ask) (server : ℕ) → Still w → HasServer k server w
      → Ends (Asks d.world (Some server)) (asked (record d { leaf = leaf }) w q k ask)
  asked_adds leaf w q k ask server still has =
      let e = record d { leaf = leaf } in
      let at = slot_has k server (blocking e w) q (Waiting k) has in
      when_ends (Asks d.world (Some server)) (paid d.system (asked_world e w q k ask)) ExceededQuota (Ok (asked_world e w q k ask, Quiet))
      (gives (asked_world e w q k ask) Quiet (record {
        how = inr (record {
          request = record { session = k; ask = ask };
          is = ap (λ l. l ++ record { session = k; ask = ask } ∷ []) (still_slot (blocking e w) q (Waiting k) still);
          session = at.0;
          there = at.1;
          server = ap Some (sym at.2);
        });
      }))

  open_adds : (place : OperandSlot) (service : List ℕ) (n : ℕ) → Ends (Asks d.world (server_of d.system d.component service)) (open_session d place service n)
  open_adds place service n =
      need_ends (Asks d.world (server_of d.system d.component service)) (slot_id_of d.x d.leaf.current place) WrongKind _
      (λ q. fill_ends (Asks d.world (server_of d.system d.component service)) Same same_slot d.world q (slot_at d.world q)
      (Waiting (free_place d.world.sessions)) _
      (refl, refl) (λ w hw. by q w hw (server_of d.system d.component service)))
    where
      by : (q : SlotId) (w : World) → Same w → (o : Option ℕ) → Ends (Asks d.world o) (need o WrongKind (λ server.
          let new = new_session d.x q server service (amount n (open_caps (interface_in service d.system.interfaces))) in
          asked d (record w { sessions = add_session new w.sessions }) q (free_place d.world.sessions) Ask_open))
      by q w hw None = fails _
      by q w hw (Some server) =
          let new = new_session d.x q server service (amount n (open_caps (interface_in service d.system.interfaces))) in
          let v : World = record w { sessions = add_session new w.sessions } in
          let at : session_at v (free_place d.world.sessions) ≡ Some new = ap (session_at v) (sym hw.1) ∙ add_here new w.sessions in
          asked_adds d.leaf v q (free_place d.world.sessions) Ask_open server hw.0 (new, at, refl)

  -- by a link
  module _ (go : SlotId → ℕ → Session → Stepped)
      (h : (q : SlotId) (k : ℕ) (s : Session) → session_at d.world k ≡ Some s → Ends (Asks d.world (Some s.server)) (go q k s)) where
    by_session : (q : SlotId) (k : ℕ) (p : Option Session) → session_at d.world k ≡ p → Ends (Asks d.world (server_in p)) (need p WrongKind (go q k))
    by_session q k None e = fails _
    by_session q k (Some s) e = h q k s e

    by_slot : (q : SlotId) (slot : Option Slot) → Ends (Asks d.world (server_behind d.world slot)) (link_in d.world slot (go q))
    by_slot q (Some (Link k)) = by_session q k (session_at d.world k) refl
    by_slot q _ = fails _

    link_adds : (o : Option SlotId) → Ends (Asks d.world (server_at_slot_id d.world o)) (need o WrongKind (λ q. link_in d.world (slot_at d.world q) (go q)))
    link_adds None = fails _
    link_adds (Some q) = by_slot q (slot_at d.world q)

  upgrade_adds : (place : OperandSlot) (n : ℕ)
      → Ends (Asks d.world (server_at_slot_id d.world (slot_id_of d.x d.leaf.current place))) (upgrade d place n)
  upgrade_adds place n =
      link_adds _ (λ q k s there. asked_adds d.leaf _ q k Ask_upgrade s.server refl (_, session_here d.world k s _ there, refl))
      (slot_id_of d.x d.leaf.current place)

  close_adds : (place : OperandSlot) → Ends (Asks d.world (server_at_slot_id d.world (slot_id_of d.x d.leaf.current place))) (close d place)
  close_adds place =
      link_adds _ (λ q k s there. asked_adds d.leaf d.world q k Ask_close s.server refl (s, there, refl)) (slot_id_of d.x d.leaf.current place)

  call_adds : (place : OperandSlot) → Ends (Asks d.world (server_at_slot_id d.world (slot_id_of d.x d.leaf.current place))) (call d place)
  call_adds place =
      pop_ends _ d.leaf.operands _ (λ a rest.
      link_adds _ (λ q k s there. asked_adds (with_operands d rest) d.world q k (Ask_call a) s.server refl (s, there, refl))
      (slot_id_of d.x d.leaf.current place))

  settled_still : (w : World) → Still w → Ends Still (settled d.system d.x w)
  settled_still w h =
      need_ends Still (slice_get w.leaves d.x) _ _ (λ l. when_ends Still _ _ _ (gives _ _ h))

  stands : (w : World) (operands : List ℕ) → Still w → Still (with_leaf w d.x (record d.leaf { operands = operands }))
  stands w operands h = h

  here : Still d.world
  here = refl

  instruct_asks : (i : Instruction) → Ends (Asks d.world (asked_by d.system d.world d.x d.component d.leaf i)) (instruct d i)
  instruct_asks (Open place service n) = open_adds place service n
  instruct_asks (Upgrade place n) = upgrade_adds place n
  instruct_asks (Call place) = call_adds place
  instruct_asks (Close place) = close_adds place
  instruct_asks (Say text) = weaken _ _ (gives _ _ refl)
  instruct_asks (Operands s) = weaken _ _ (need_ends Still _ _ _ (λ o. gives _ _ refl))
  instruct_asks i = weaken _ _ (search (
    need_ends,
    when_ends,
    pop_ends,
    push_ends,
    link_in_ends,
    absent_ends,
    fill_ends Still Still still_slot,
    bytes_in_ends Still Still still_slot,
    pool_in_ends Still Still still_slot,
    gives,
    here,
    stands,
    still_slot,
    settled_still,
  ) depth 14)

  unblocked_still : (w : World) (x : ℕ) (f : List ℕ → List ℕ) → Still w → Still (unblocked w x f)
  unblocked_still w x f h = by (slice_get w.leaves x)
    where
      by : (o : Option Leaf) → Still (active_again w x f o)
      by None = h
      by (Some leaf) = h

  main_still : (o : Option (List ℕ)) (n : ℕ) → Ends Still (main_ended d o n)
  main_still (Some service) n = gives (standing d (serving d.leaf)) Quiet refl
  main_still None (suc n) = gives (standing d (serving d.leaf)) Quiet refl
  main_still None zero = when_ends Still (no_link d.leaf.slots) WrongKind _ (gives (exit_of d) Finished refl)

  body_still : (loops : List Round) → Ends Still (body_ended d loops)
  body_still [] = section_by d Still still_slot refl unblocked_still (λ w k h. h)
      (main_still d.component.node.provides d.component.node.signals) d.leaf.current d.leaf.reacting
  body_still (r ∷ loops) = gives _ Quiet refl

perform_asks : (d : Doing) (todo : Statements) → Ends (Asks d.world (next_asked d.system d.world d.x d.component d.leaf todo)) (perform d todo)
perform_asks d Done = weaken d None _ (body_still d d.leaf.loops)
perform_asks d (Do i rest) = instruct_asks (record d { leaf = record d.leaf { todo = rest } }) i
perform_asks d (If arm other rest) = weaken d None _ (pop_ends _ d.leaf.operands _ (λ a below. gives _ Quiet refl))
perform_asks d (Loop count body rest) = weaken d None _ (gives _ Quiet refl)

-- a leaf that works asks the server that its next statement names
pub next_asks : (u : System) (w : World) (x : ℕ) (c : Component) (leaf : Leaf) (new : World) (event : Event) → slice_get u.components x ≡ Some c
    → slice_get w.leaves x ≡ Some leaf → (leaf.phase ≡ Running) ⊎ (leaf.phase ≡ Handling) → next u w x ≡ Ok (new, event)
    → Asks w (next_asked u w x c leaf leaf.todo) new
next_asks u w x c leaf new event placed there runs stepped = (by runs).holds new event (sym (λ j. step_of u w x (placed j) (there j)) ∙ stepped)
  where
    by : (leaf.phase ≡ Running) ⊎ (leaf.phase ≡ Handling)
        → Ends (Asks w (next_asked u w x c leaf leaf.todo))
        (step_in (record { system = u; world = w; x = x; component = c; leaf = record leaf { steps = suc leaf.steps } }) leaf.phase)
    by (inl e) = subst (λ p. Ends (Asks w (next_asked u w x c leaf leaf.todo))
        (step_in (record { system = u; world = w; x = x; component = c; leaf = record leaf { steps = suc leaf.steps } }) p)) (sym e)
        (perform_asks (record { system = u; world = w; x = x; component = c; leaf = record leaf { steps = suc leaf.steps } }) leaf.todo)
    by (inr e) = subst (λ p. Ends (Asks w (next_asked u w x c leaf leaf.todo))
        (step_in (record { system = u; world = w; x = x; component = c; leaf = record leaf { steps = suc leaf.steps } }) p)) (sym e)
        (perform_asks (record { system = u; world = w; x = x; component = c; leaf = record leaf { steps = suc leaf.steps } }) leaf.todo)
