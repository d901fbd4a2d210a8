-- A session goes with the reply to its close alone.
use Rattle.std.proofs.Common.{◌≡◌, ◌≢◌, ℕ, suc, inl, inr, Bool, true, false, cond, nat_lt, List, [], ◌∷◌, Option, Some, None, Ok, refl, ap, sym, ◌∙◌, zero}
use Rattle.std.proofs.Common.{subst, arith}
use Rattle.std.specs.Prelude.{slice_get, slice_set}
use Rattle.std.proofs.lemmas.Bool.Decides.{eqb_tells}
use Rattle.gq_model.specs.machine.Program.{Statements, Done, Do, If, Loop, section_in}
use Rattle.gq_model.specs.declared.program.OperandSlot.{OperandSlot}
use Rattle.gq_model.specs.declared.program.Instruction.{Instruction}
use Rattle.gq_model.specs.declared.program.Instruction.TheVariants.{Say, Open, Upgrade}
use Rattle.gq_model.specs.declared.section.Section.{Section}
use Rattle.gq_model.specs.declared.section.Section.TheVariants.{Main, Opening, Upgrading, Calling, Closing, Reacting}
use Rattle.gq_model.specs.declared.phase.Phase.{Phase}
use Rattle.gq_model.specs.declared.phase.Phase.TheVariants.{Pending, Running, Blocked, Serving, Handling, Exited}
use Rattle.gq_model.specs.declared.fault.Wrong.TheVariants.{WrongKind, ExceededQuota, MissingSection}
use Rattle.gq_model.specs.machine.Amounts.{amount}
use Rattle.gq_model.specs.machine.Scenario.{System, Component, Scenario, components, system, interface_in, open_caps}
use Rattle.gq_model.specs.machine.Routes.{server_of}
use Rattle.gq_model.specs.machine.World.{Slot, Empty, Waiting, Link, SlotId, In_leaf, In_session, In_object, Session, Ask, Ask_open, Ask_upgrade, Request}
use Rattle.gq_model.specs.machine.World.{Signal}
use Rattle.gq_model.specs.machine.World.{Current}
use Rattle.gq_model.specs.machine.World.{Round, Leaf, World, joined, session_at, slot_at, slot_id_of, with_leaf, with_session, with_slot, put_leaf_slot}
use Rattle.gq_model.specs.machine.World.{put_session_slot, put_object}
use Rattle.gq_model.specs.machine.Doing.{Doing, Idle, Quiet, Finished, Stepped, need, when, standing, settled}
use Rattle.gq_model.specs.machine.Sums.{paid, with_peaks}
use Rattle.gq_model.specs.machine.Requests.{add_session, free_place, new_session, asked, open_session, upgrade}
use Rattle.gq_model.specs.machine.Step.{instruct, oldest, all_empty, accept, accepted_as, serving, active_again, unblocked, replied, reply_close, reply}
use Rattle.gq_model.specs.machine.Step.{serve, first_signal}
use Rattle.gq_model.specs.machine.Step.{exit_of, main_ended, section_ended, body_ended, perform, accept_oldest, step_in, step_of, next}
use Rattle.gq_model.specs.Promises.{EachOf, GivesBack, IsClosed, ClosesWhole, EndsSessions}
use Rattle.gq_laws.specs.Shapes.{IsWholeWorld}
use Rattle.gq_laws.specs.Session_links.{links, stance, AreLinked, IsLinkedWorld, Fits}
use Rattle.gq_laws.proofs.step_shapes.Step_end_shapes.{Ends, gives, fails, need_ends, need_found, when_ends, pop_ends, push_ends, link_in_ends, link_in_found}
use Rattle.gq_laws.proofs.step_shapes.Step_end_shapes.{absent_ends}
use Rattle.gq_laws.proofs.step_shapes.Step_end_shapes.{fill_ends, bytes_in_ends, pool_in_ends}
use Rattle.gq_model.proofs.Small_facts.{some_same, none_some, get_within}
use Rattle.gq_laws.proofs.session_links.Written_world_links.{set_else, session_here, session_else}
use Rattle.gq_laws.proofs.session_links.Link_free_statements.{stood, when_found}
use Rattle.gq_laws.specs.Inside_steps.{TakesLeaf}
use Rattle.gq_laws.proofs.session_links.Linked_after_open.{add_here, add_else}
use Rattle.gq_laws.proofs.session_links.Linked_after_reply.{without, v_there, gone_here}
use Rattle.gq_laws.proofs.step_shapes.Step_end_worlds.{section_taken, taken, closed, running_blocked, handling_blocked}
use Rattle.gq_laws.proofs.quota_payment.Close_returns_donation.{after, gives_back}
use Rattle.gq_laws.proofs.step_shapes.Step_end_worlds.{blocking, asked_world}
use Rattle.std.proofs.lemmas.Option.{slice_get_within}
use Rattle.gq_laws.proofs.session_links.Linked_after_change.{handling_with}

-- STAYING

-- a session is there
abbrev IsThere : ℕ → World → Type 0
IsThere k w = (s : Session) × (session_at w k ≡ Some s)

module _ (k : ℕ) where
  there_session : (w : World) (j : ℕ) (t s : Session) → session_at w j ≡ Some t → IsThere k w → IsThere k (with_session w j s)
  there_session w j t s e h = elim (eqb_tells k j) [
    | inl f ↦ (s, ap (session_at (with_session w j s)) f.1 ∙ session_here w j t s e)
    | inr f ↦ (h.0, session_else w j k s f.1 ∙ h.1)
  ]

  there_slot : (w : World) (q : SlotId) (slot : Slot) → IsThere k w → IsThere k (with_slot w q slot)
  there_slot w (In_leaf x i) slot h = go (slice_get w.leaves x)
    where
      go : (o : Option Leaf) → IsThere k (put_leaf_slot w o x i slot)
      go None = h
      go (Some leaf) = h
  there_slot w (In_session j i) slot h = go (session_at w j) refl
    where
      go : (o : Option Session) → session_at w j ≡ o → IsThere k (put_session_slot w o j i slot)
      go None e = h
      go (Some s) e = there_session w j s (record s { slots = slice_set s.slots i slot }) e h
  there_slot w (In_object j) slot h = go (session_at w j) refl
    where
      go : (o : Option Session) → session_at w j ≡ o → IsThere k (put_object w o j slot)
      go None e = h
      go (Some s) e = there_session w j s (record s { object = slot }) e h

  there_added : (w : World) (s : Session) → IsThere k w → IsThere k (record w { sessions = add_session s w.sessions })
  there_added w s h = elim (eqb_tells k (free_place w.sessions)) [
    | inl f ↦
        (s, ap (λ j. joined (slice_get (add_session s w.sessions) j)) f.1 ∙ add_here s w.sessions)
    | inr f ↦ (h.0, add_else s w.sessions k f.1 ∙ h.1)
  ]

  there_active : (w : World) (x : ℕ) (f : List ℕ → List ℕ) → IsThere k w → IsThere k (unblocked w x f)
  there_active w x f h = go (slice_get w.leaves x)
    where
      go : (o : Option Leaf) → IsThere k (active_again w x f o)
      go None = h
      go (Some leaf) = h

  there_settled : (system : System) (x : ℕ) (w : World) → IsThere k w → Ends (IsThere k) (settled system x w)
  there_settled system x w h = need_ends (IsThere k) (slice_get w.leaves x) WrongKind _
      (λ leaf. when_ends (IsThere k) (paid system (with_leaf w x (with_peaks w x leaf))) ExceededQuota (Ok (with_leaf w x (with_peaks w x leaf), Quiet))
      (gives (with_leaf w x (with_peaks w x leaf)) Quiet h))

  module _ (d : Doing) (h : IsThere k d.world) where
    stands : (leaf : Leaf) → IsThere k (standing d leaf)
    stands leaf = h

    asked_stays : (w : World) (q : SlotId) (j : ℕ) (ask : Ask) → IsThere k w → Ends (IsThere k) (asked d w q j ask)
    asked_stays w q j ask hw = when_ends (IsThere k) (paid d.system (asked_world d w q j ask)) ExceededQuota (Ok (asked_world d w q j ask, Quiet))
        (gives (asked_world d w q j ask) Quiet (there_slot (blocking d w) q (Waiting j) hw))

    open_stays : (place : OperandSlot) (service : List ℕ) (n : ℕ) → Ends (IsThere k) (open_session d place service n)
    open_stays place service n =
        need_ends (IsThere k) (slot_id_of d.x d.leaf.current place) WrongKind _
        (λ q. fill_ends (IsThere k) (IsThere k) there_slot d.world q (slot_at d.world q) (Waiting (free_place d.world.sessions)) _ h (λ w hw.
        need_ends (IsThere k) (server_of d.system d.component service) WrongKind _ (λ server.
        let new = new_session d.x q server service (amount n (open_caps (interface_in service d.system.interfaces))) in
        asked_stays (record w { sessions = add_session new w.sessions }) q (free_place d.world.sessions) Ask_open (there_added w new hw))))

    upgrade_stays : (place : OperandSlot) (n : ℕ) → Ends (IsThere k) (upgrade d place n)
    upgrade_stays place n =
        need_ends (IsThere k) (slot_id_of d.x d.leaf.current place) WrongKind _
        (λ q. link_in_found (IsThere k) d.world (slot_at d.world q) _ (λ j s there. asked_stays _ q j Ask_upgrade (there_session d.world j s _ there h)))

    instruct_stays : (i : Instruction) → Ends (IsThere k) (instruct d i)
    instruct_stays (Say text) = gives _ _ (stands d.leaf)
    instruct_stays (Open place service n) = open_stays place service n
    instruct_stays (Upgrade place n) = upgrade_stays place n
    instruct_stays i = search (
      need_ends,
      when_ends,
      pop_ends,
      push_ends,
      link_in_ends,
      absent_ends,
      fill_ends (IsThere k) (IsThere k) there_slot,
      bytes_in_ends (IsThere k) (IsThere k) there_slot,
      pool_in_ends (IsThere k) (IsThere k) there_slot,
      gives,
      stands,
      there_slot,
      there_settled,
      asked_stays,
    ) depth 14

    replied_stays : (j : ℕ) (s : Session) (f : List ℕ → List ℕ) → Ends (IsThere k) (replied d j s f)
    replied_stays j s f =
        gives (unblocked (with_slot (standing d (serving d.leaf)) s.slot_id (Link j)) s.client f) Quiet
        (there_active (with_slot (standing d (serving d.leaf)) s.slot_id (Link j)) s.client f (there_slot (standing d (serving d.leaf)) s.slot_id (Link j) h))

    -- another session goes
    close_stays : (j : ℕ) (s : Session) → k ≢ j → Ends (IsThere k) (reply_close d j s)
    close_stays j s ne =
        when_ends (IsThere k) (all_empty s.slots) WrongKind _ (when_ends (IsThere k) (paid d.system (closed d j s)) ExceededQuota _ (gives (closed d j s) Quiet
        (there_active (record (with_slot (standing d (serving d.leaf)) s.slot_id Empty) {
          sessions =
              slice_set (with_slot (standing d (serving d.leaf)) s.slot_id Empty).sessions j None;
        }) s.client (λ operands. operands) left)))
      where
        left : IsThere k (record (with_slot (standing d (serving d.leaf)) s.slot_id Empty) {
          sessions =
              slice_set (with_slot (standing d (serving d.leaf)) s.slot_id Empty).sessions j None;
        })
        left = let there = there_slot (standing d (serving d.leaf)) s.slot_id Empty h in
            (there.0, ap joined (set_else (with_slot (standing d (serving d.leaf)) s.slot_id Empty).sessions j k None ne) ∙ there.1)

    main_stays : (provides : Option (List ℕ)) (signals : ℕ) → Ends (IsThere k) (main_ended d provides signals)
    main_stays (Some service) signals = gives (standing d (serving d.leaf)) Quiet h
    main_stays None (suc n) = gives (standing d (serving d.leaf)) Quiet h
    main_stays None zero = when_ends (IsThere k) _ _ _ (gives (exit_of d) Finished h)

    body_stays : (r : Round) (loops : List Round) → Ends (IsThere k) (body_ended d (r ∷ loops))
    body_stays r loops = by_round (nat_lt (suc r.round) r.count)
      where
        by_round : (b : Bool) → Ends (IsThere k) (Ok (
          standing d
              (cond b (record d.leaf { todo = r.body; loops = record r { round = suc r.round } ∷ loops }) (record d.leaf { todo = r.rest; loops = loops })),
          Quiet,
        ))
        by_round true = gives _ Quiet h
        by_round false = gives _ Quiet h

    accept_stays : (r : Request) (rest : List Request) → Ends (IsThere k) (accept d r rest)
    accept_stays r rest = need_found (IsThere k) (session_at d.world r.session) WrongKind _ (λ old there. taken_stays old there)
      where
        taken_stays : (old : Session) → session_at d.world r.session ≡ Some old
            → Ends (IsThere k) (when (paid d.system (taken d r rest old)) ExceededQuota
            (need (section_in (section_taken d r old) d.component.node.program.sections) MissingSection (λ b. Ok (taken d r rest old, Quiet))))
        taken_stays old there =
            when_ends (IsThere k) (paid d.system (taken d r rest old)) ExceededQuota
            (need (section_in (section_taken d r old) d.component.node.program.sections) MissingSection (λ b. Ok (taken d r rest old, Quiet)))
            (need_ends (IsThere k) (section_in (section_taken d r old) d.component.node.program.sections) MissingSection (λ b. Ok (taken d r rest old, Quiet))
            (λ b. gives (taken d r rest old) Quiet (there_session d.world r.session old (accepted_as d.system r.ask old) there h)))

-- CLOSING

-- a session that was there is there, or has given back its donation
abbrev Closes : Scenario → World → ℕ → Session → World → Type 0
Closes s w k u v = session_at v k ≡ None → IsClosed s w v u

stays_closes : (s : Scenario) (w : World) (k : ℕ) (u : Session) (r : Stepped) → Ends (IsThere k) r → Ends (Closes s w k u) r
stays_closes s w k u r e = record { holds = λ v event q gone. (let there = e.holds v event q in absurd (none_some (sym gone ∙ there.1))) }

module _ (s : Scenario) (d : Doing) (of : d.system ≡ system s) (t : TakesLeaf d) (linked : AreLinked d.system (links d.world))
    (component : slice_get d.system.components d.x ≡ Some d.component) (pays : paid d.system d.world ≡ true) (k : ℕ) (u : Session)
    (there : session_at d.world k ≡ Some u) (peaks : d.leaf.peaks ≡ t.old.peaks) where
  abbrev P : World → Type 0
  P = Closes s d.world k u

  quiet : (r : Stepped) → Ends (IsThere k) r → Ends P r
  quiet = stays_closes s d.world k u

  here : IsThere k d.world
  here = (u, there)

  module _ (handles : d.leaf.phase ≡ Handling) (g : Current) (current : d.leaf.current ≡ Some g) where
    own_closes : (v : Session) → session_at d.world g.session ≡ Some v → u ≡ v → Ends P (reply_close d g.session v)
    own_closes v at same =
        when_found P (all_empty v.slots) WrongKind _ (λ bare. when_found P (paid d.system (closed d g.session v)) ExceededQuota _
        (λ still. gives (closed d g.session v) Quiet (λ gone. record { empty = ap (λ (u : Session). all_empty u.slots) same ∙ bare; gives_back = back still })))
      where
        back : paid d.system (closed d g.session v) ≡ true → EachOf (system s).counted (GivesBack s d.world (closed d g.session v) u)
        back = subst (λ o. paid d.system (active_again (without d t linked handles g current v at) v.client (λ operands. operands) o) ≡ true
            → EachOf (system s).counted (GivesBack s d.world (active_again (without d t linked handles g current v at) v.client (λ operands. operands) o) u))
            (sym (v_there d t linked handles g current v at Empty (λ operands. operands) (without d t linked handles g current v at) refl))
            (λ still. subst (λ u. EachOf (system s).counted (GivesBack s d.world (after s d of t linked component pays handles g current v at) u)) (sym same)
            (subst (λ (a : System). EachOf a.counted (GivesBack s d.world (after s d of t linked component pays handles g current v at) v)) of
            (gives_back s d of t linked component pays handles g current v at peaks still)))

    reply_closes : (section : Section) (v : Session) → session_at d.world g.session ≡ Some v → Ends P (reply d g.session section v)
    reply_closes Main v at = fails WrongKind
    reply_closes Opening v at = when_ends P _ _ _ (quiet _ (replied_stays k d here g.session v _))
    reply_closes (Upgrading l) v at = quiet _ (replied_stays k d here g.session v _)
    reply_closes (Calling l) v at = pop_ends P _ _ (λ a rest. quiet _ (replied_stays k d here g.session v _))
    reply_closes (Closing l) v at = elim (eqb_tells k g.session) [
      | inl e ↦ own_closes v at (some_same (sym there ∙ ap (session_at d.world) e.1 ∙ at))
      | inr e ↦ quiet _ (close_stays k d here g.session v e.1)
    ]
    reply_closes (Reacting i) v at = fails WrongKind

  section_closes : d.leaf.phase ≢ Blocked → (current : Option Current) (reacting : Option ℕ) → d.leaf.current ≡ current
      → Ends P (section_ended d current reacting)
  section_closes active None None e = quiet _ (main_stays k d here d.component.node.provides d.component.node.signals)
  section_closes active None (Some i) e = quiet _ (gives _ Quiet here)
  section_closes active (Some g) reacting e = need_found P (session_at d.world g.session) WrongKind _
      (λ v at. reply_closes (handling_with d.leaf.phase g
      (subst (Fits d.leaf.phase) e (linked.fits d.x (stance d.leaf.phase d.leaf.current) (stood d t))) active) g e g.section v at)

  body_closes : d.leaf.phase ≢ Blocked → (loops : List Round) → Ends P (body_ended d loops)
  body_closes active [] = section_closes active d.leaf.current d.leaf.reacting refl
  body_closes active (r ∷ loops) = quiet _ (body_stays k d here r loops)

  perform_closes : d.leaf.phase ≢ Blocked → (todo : Statements) → Ends P (perform d todo)
  perform_closes active Done = body_closes active d.leaf.loops
  perform_closes active (Do i rest) = quiet _ (instruct_stays k (record d { leaf = record d.leaf { todo = rest } }) here i)
  perform_closes active (If arm other rest) = pop_ends P _ _ (λ a below. quiet _ (gives _ Quiet here))
  perform_closes active (Loop count body rest) = quiet _ (gives _ Quiet here)

  oldest_closes : (found : Option (Request × List Request)) → Ends P (accept_oldest d found)
  oldest_closes None = quiet _ (gives d.world Idle here)
  oldest_closes (Some p) = quiet _ (accept_stays k d here p.0 p.1)

  serve_closes : (found : Option (ℕ × List Signal)) → Ends P (serve d found)
  serve_closes None = oldest_closes (oldest d.world d.x d.world.requests)
  serve_closes (Some p) = quiet _ (need_ends _ (section_in (Reacting p.0) d.component.node.program.sections) MissingSection _ (λ body. gives _ Quiet here))

  step_closes : (phase : Phase) → d.leaf.phase ≡ phase → Ends P (step_in d phase)
  step_closes Pending e = quiet _ (gives d.world Idle here)
  step_closes Running e = perform_closes (λ b. running_blocked (sym e ∙ b)) d.leaf.todo
  step_closes Blocked e = quiet _ (gives d.world Idle here)
  step_closes Serving e = serve_closes (first_signal d.leaf.signals)
  step_closes Handling e = perform_closes (λ b. handling_blocked (sym e ∙ b)) d.leaf.todo
  step_closes Exited e = quiet _ (gives d.world Idle here)

module _ (s : Scenario) (w : World) (linked : IsLinkedWorld (system s) w) (pays : paid (system s) w ≡ true) (k : ℕ) (u : Session)
    (there : session_at w k ≡ Some u) where
  next_closes : (x : ℕ) (c : Option Component) (leaf : Option Leaf) → slice_get (components s) x ≡ c → slice_get w.leaves x ≡ leaf
      → Ends (Closes s w k u) (step_of (system s) w x c leaf)
  next_closes x (Some c) (Some leaf) component at =
      step_closes s (record { system = system s; world = w; x = x; component = c; leaf = record leaf { steps = suc leaf.steps } }) refl
      (record { old = leaf; there = at; slots = refl; phase = refl; current = refl; reacting = refl }) linked component pays k u there refl leaf.phase refl
  next_closes x (Some c) None component at = stays_closes s w k u _ (gives w Idle (u, there))
  next_closes x None leaf component at = stays_closes s w k u _ (gives w Idle (u, there))

pub closes_whole : (s : Scenario) (w : World) → IsLinkedWorld (system s) w → paid (system s) w ≡ true → ClosesWhole s w
closes_whole s w linked pays x k u new event stepped there gone =
    (next_closes s w linked pays k u there x (slice_get (components s) x) (slice_get w.leaves x) refl refl).holds new event stepped gone

-- THE REPLY TO A CLOSE

-- a session that a step has closed is not there
module _ (d : Doing) (k l : ℕ) where
  gone_ends : (v : Session) → Ends (λ w. session_at w k ≡ None) (reply_close d k v)
  gone_ends v =
      when_ends (λ w. session_at w k ≡ None) (all_empty v.slots) WrongKind _
      (when_ends (λ w. session_at w k ≡ None) (paid d.system (closed d k v)) ExceededQuota _ (gives (closed d k v) Quiet (by (slice_get _ v.client))))
    where
      emptied : World
      emptied = with_slot (standing d (serving d.leaf)) v.slot_id Empty

      by : (o : Option Leaf)
          → session_at (active_again (record emptied { sessions = slice_set emptied.sessions k None }) v.client (λ operands. operands) o) k ≡ None
      by None = gone_here emptied.sessions k
      by (Some leaf) = gone_here emptied.sessions k

  close_ended : (reacting : Option ℕ) → Ends (λ w. session_at w k ≡ None) (section_ended d (Some (record { session = k; section = Closing l })) reacting)
  close_ended reacting = need_ends (λ w. session_at w k ≡ None) (session_at d.world k) WrongKind (reply d k (Closing l)) gone_ends

pub ends_sessions : (s : Scenario) (w : World) → IsWholeWorld (system s) w → EndsSessions s w
ends_sessions s w whole x k new event at_end stepped =
    let below = slice_get_within w.leaves x at_end.leaf at_end.there in
    let count = whole.count in
    let c = get_within (components s) x (omega (arith, below, count)) in
    let e : next (system s) w x ≡ step_of (system s) w x (Some c.0) (Some at_end.leaf) = λ i. step_of (system s) w x (c.1 i) (at_end.there i) in
    (ends c.0 at_end.leaf at_end.phase at_end.todo at_end.loops at_end.current).holds new event (sym e ∙ stepped)
  where
    ends : (c : Component) (leaf : Leaf) → leaf.phase ≡ Handling → leaf.todo ≡ Done → leaf.loops ≡ []
        → leaf.current ≡ Some (record { session = k; section = Closing at_end.level })
        → Ends (λ w. session_at w k ≡ None) (step_of (system s) w x (Some c) (Some leaf))
    ends c leaf phase todo loops current =
        let d : Doing = record { system = system s; world = w; x = x; component = c; leaf = record leaf { steps = suc leaf.steps } } in
        let e : step_of (system s) w x (Some c) (Some leaf) ≡ section_ended d leaf.current leaf.reacting =
        ap (step_in d) phase ∙ (ap (perform d) todo ∙ ap (body_ended d) loops) in
        subst (Ends (λ w. session_at w k ≡ None)) (sym (e ∙ ap (λ o. section_ended d o leaf.reacting) current)) (close_ended d k at_end.level leaf.reacting)
