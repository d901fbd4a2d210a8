-- What sessions cost and were given stays within what they need: in every step inside a section, where a request is taken up, and where a section ends.
use Rattle.std.proofs.Common.{◌≡◌, ◌≢◌, ℕ, ◌≤◌, ◌⊎◌, inl, inr, List, Option, Some, None, Ok, refl, ap, sym, ◌∙◌, subst, arith, zero, suc}
use Rattle.std.specs.Prelude.{slice_get, slice_set}
use Rattle.std.proofs.lemmas.Bool.Decides.{eqb_tells}
use Rattle.gq_model.specs.machine.Amounts.{Resource, part}
use Rattle.gq_model.specs.declared.phase.Phase.TheVariants.{Serving}
use Rattle.gq_model.specs.declared.section.Section.{Section}
use Rattle.gq_model.specs.declared.section.Section.TheVariants.{Main, Opening, Upgrading, Calling, Closing, Reacting}
use Rattle.gq_model.specs.declared.fault.Wrong.TheVariants.{MissingSection}
use Rattle.gq_model.specs.machine.Program.{section_in, body_of}
use Rattle.gq_model.specs.machine.Scenario.{Interface, System, interface_in}
use Rattle.gq_model.specs.machine.World.{Slot, Waiting, In_session, Session, Ask, Ask_open, Ask_upgrade, Ask_close, Ask_call, Request, Current, Leaf, World}
use Rattle.gq_model.specs.machine.World.{Signal, session_at, with_session, session_slot, slot_at}
use Rattle.gq_model.specs.machine.Sums.{slot_price}
use Rattle.gq_model.specs.rules.Kinds.{Kind, AbstractState, Context}
use Rattle.gq_model.specs.rules.Flow.{context, section_end}
use Rattle.gq_model.specs.rules.Use.{subject}
use Rattle.gq_model.specs.machine.Doing.{Doing, Event, Quiet, Finished, standing}
use Rattle.gq_model.specs.machine.Step.{oldest, accept, accepted_as, section_for, first_operands, beginning, serving, exit_of, main_ended, section_ended}
use Rattle.gq_model.specs.machine.Step.{take_signal, reacting_to}
use Rattle.gq_laws.specs.Shapes.{Each}
use Rattle.gq_laws.specs.Session_links.{outline, outline_in, links, requests_of, Stands, IsAsked, IsLinkedWorld}
use Rattle.gq_laws.specs.internal.Lending.{given_by, slot_given}
use Rattle.gq_laws.specs.Typed.{Meets}
use Rattle.gq_laws.specs.Inside_steps.{TakesLeaf, bare, IsElse, KeepsSession, KeepsSessionIn, LeavesOthers, LeadsOn}
use Rattle.gq_laws.specs.Reply_stances.{Replies, slot_replied, session_replied}
use Rattle.gq_laws.specs.Typing.{IsTypedBy}
use Rattle.gq_model.specs.machine.World.{section_of}
use Rattle.gq_laws.specs.internal.Verified_holdings.{IsBounded, bank_part, CostsWithin, GivesFor}
use Rattle.gq_laws.proofs.step_shapes.Step_end_shapes.{Ends, gives, need_ends, when_ends}
use Rattle.gq_model.proofs.Small_facts.{some_same, none_some}
use Rattle.gq_laws.proofs.session_links.Asked_request_changes.{each_map, one_one, none_of}
use Rattle.gq_laws.proofs.session_links.Written_world_links.{set_here, session_here, session_else}
use Rattle.gq_laws.proofs.session_links.Linked_after_accept.{Found, oldest_found}
use Rattle.gq_laws.proofs.reply_rules.World_after_reply.{replies_ruled}
use Rattle.gq_laws.proofs.verified_programs.Sure_system_facts.{IsSure}
use Rattle.gq_laws.proofs.session_links.Linked_after_reply.{session_of_outline}
use Rattle.gq_laws.proofs.typed_worlds.Typed_world_step.{Acts, handling}
use Rattle.gq_laws.proofs.held_resources.Session_bank_cost.{active_open, its_server, handling_bounded}
use Rattle.gq_laws.proofs.held_resources.Session_cost_parts.{NoMoreGiven, stay_part, same_part, set_part, Then, then_parts, IsGiven, IsCovered, Gives}
use Rattle.gq_laws.proofs.held_resources.Session_cost_parts.{given_bare}
use Rattle.gq_laws.proofs.held_resources.Less_held_sums.{then_gives}
use Rattle.gq_laws.proofs.held_resources.Session_cost_parts.{costs_bare, WasSo, request_kept, requests_kept, AreHeld, same_held}
use Rattle.gq_laws.proofs.typed_worlds.Accepted_request_typed.{ends_need}
use Rattle.gq_laws.proofs.step_shapes.Step_end_worlds.{handling_blocked}
use Rattle.gq_laws.proofs.typed_worlds.Inside_step_typed.{session_back}

-- a request that is taken up leaves what was given as it is, and what was given for it is enough at the new level
accepted_gives : (system : System) (r : Resource) (ask : Ask) (s : Session) → given_by r (Some (accepted_as system ask s)) ≡ given_by r (Some s)
accepted_gives system r Ask_open s = refl
accepted_gives system r Ask_upgrade s = refl
accepted_gives system r Ask_close s = refl
accepted_gives system r (Ask_call value) s = refl

accepted_given : (system : System) (ask : Ask) (s : Session) → IsGiven system s
    → ((i : Interface) → interface_in s.service system.interfaces ≡ Some i → GivesFor ask i s) → IsGiven system (accepted_as system ask s)
accepted_given system Ask_open s h g = h
accepted_given system Ask_upgrade s h g = g
accepted_given system Ask_close s h g = h
accepted_given system (Ask_call value) s h g = h

-- A STEP INSIDE A SECTION

module _ (promised : ℕ → Option Kind) (d : Doing) (sure : IsSure d.system) (takes : TakesLeaf d) (h : IsLinkedWorld d.system d.world)
    (t : IsTypedBy promised (IsBounded d.system) d.system d.world) (at : slice_get d.system.components d.x ≡ Some d.component)
    (held : AreHeld d.system d.world) (w : World) (linked : IsLinkedWorld d.system w) (typed : IsTypedBy promised (IsBounded d.system) d.system w) where
  module _ (a : Acts promised (IsBounded d.system) d) (others : LeavesOthers d w)
      (leads : LeadsOn promised (context (subject d.system d.component) (section_of d.leaf.current d.leaf.reacting)) a.state a.end d w) where
    less : NoMoreGiven d.world w
    less r k = by (session_at d.world k) (others.sessions k)
      where
        by : (o : Option Session) → KeepsSessionIn d.leaf.current k o (session_at w k) → given_by r (session_at w k) ≤ given_by r o
        by None e = let f = ap (given_by r) e in omega (arith, f)
        by (Some old) e =
            let f = ap (given_by r) e.1 in let same = ap (λ (u : Session). part r u.donation) e.2.rest in omega (arith, f, same)

    -- the current session is at a point of its section, which is covered
    at_current : (g : Current) → d.leaf.current ≡ Some g → (s : Session) → session_at w g.session ≡ Some s → IsCovered d.system s (λ r. bank_part r w s)
    at_current g mine s there =
        let phase = leads.phase ∙ handling promised (IsBounded d.system) d sure takes h t at g mine a.active in
        let current = leads.current ∙ mine in
        let server = its_server promised d.system sure w linked typed d.x d.component leads.leaf at leads.there g s current there in
        let opens = active_open promised d.system sure w linked typed g.session s there d.x leads.leaf leads.there
        (λ e. handling_blocked (sym phase ∙ e)) server in
        handling_bounded promised d.system sure w linked typed d.x d.component leads.leaf at leads.there g s current there opens phase

    costs_each : (k : ℕ) (s : Session) → session_at w k ≡ Some s → CostsWithin d.system w s
    costs_each k s there = by d.leaf.current refl
      where
        b : (old : Session) × (session_at d.world k ≡ Some old) × KeepsSession d.leaf.current k old s
        b = session_back d w others k s there

        else : IsElse k d.leaf.current → CostsWithin d.system w s
        else ne = costs_bare d.system b.0 s b.2.rest d.world w (λ r. stay_part d.world w r less b.0 s b.2.object (b.2.slots ne)) (held.0 k b.0 b.1)

        here : (g : Current) → d.leaf.current ≡ Some g → g.session ≡ k → CostsWithin d.system w s
        here g mine same = record {
          costs = at_current g mine s (ap (session_at w) same ∙ there);
          given = given_bare d.system b.0 s b.2.rest (held.0 k b.0 b.1).given;
        }

        by : (o : Option Current) → d.leaf.current ≡ o → CostsWithin d.system w s
        by None e = else (subst (IsElse k) (sym e) tt)
        by (Some g) e = elim (eqb_tells g.session k) [ inl f ↦ here g e f.1 | inr f ↦ else (subst (IsElse k) (sym e) f.1) ]

    pub goes_held : AreHeld d.system w
    goes_held = (
      costs_each,
      requests_kept d.system d.world w others.requests (λ k s there. let b = session_back d w others k s there in (b.0, b.1, b.2.rest)) held.1,
    )

  -- A REQUEST THAT IS TAKEN UP

  module _ (serves : d.leaf.phase ≡ Serving) (q : Request) (left : List Request) (first : oldest d.world d.x d.world.requests ≡ Some (q, left)) (event : Event)
      (is : accept d q left ≡ Ok (w, event)) where
    module _ (old : Session) (there : session_at d.world q.session ≡ Some old) where
      abbrev k : ℕ
      k = q.session

      abbrev new : Session
      new = accepted_as d.system q.ask old

      abbrev current_then : Current
      current_then = record { session = k; section = section_for q.ask new.level }

      abbrev leaf_then : Leaf
      leaf_then = beginning d.leaf current_then (first_operands q.ask) (body_of (section_in current_then.section d.component.node.program.sections))

      abbrev between : World
      between = record (standing d leaf_then) { requests = left }

      is_then : w ≡ with_session between k new
      is_then = (ends_need (session_at d.world k) _ _ old there
          (when_ends (λ u. u ≡ with_session between k new) _ _ _
          (need_ends (λ u. u ≡ with_session between k new) _ _ _ (λ b. gives (with_session between k new) Quiet refl)))).holds w event is

      leaf_there : slice_get w.leaves d.x ≡ Some leaf_then
      leaf_there = ap (λ (u : World). slice_get u.leaves d.x) is_then ∙ set_here d.world.leaves d.x leaf_then takes.old takes.there

      session_now : session_at w k ≡ Some new
      session_now = ap (λ u. session_at u k) is_then ∙ session_here between k old new there

      session_other : (j : ℕ) → j ≢ k → session_at w j ≡ session_at d.world j
      session_other j ne = ap (λ u. session_at u j) is_then ∙ session_else between k j new ne

      found : Found (Gives d.system d.world) d.world d.x d.world.requests (q, left)
      found = oldest_found (Gives d.system d.world) d.world d.x d.world.requests (q, left) first

      -- it is the one request of its session
      none_left : requests_of k left ≡ 0
      none_left = by (h.stands k (outline old) (ap outline_in there))
        where
          by : Stands (links d.world) k (outline old) → requests_of k left ≡ 0
          by (inl u) = let none = u.2 in let count = found.counts k in let one = one_one k k refl in absurd (omega (arith, none, count, one))
          by (inr u) = let single = u.1 in let count = found.counts k in let one = one_one k k refl in omega (arith, single, count, one)

      taken_less : NoMoreGiven d.world w
      taken_less r j =
          elim (eqb_tells j k) [
            | inl f ↦ (
                let was = ap (λ j. given_by r (session_at d.world j)) f.1 ∙ ap (given_by r) there in
                let now = ap (λ j. given_by r (session_at w j)) f.1 ∙ ap (given_by r) session_now in
                let same = accepted_gives d.system r q.ask old in
                omega (arith, was, now, same))
            | inr f ↦ (let same = ap (given_by r) (session_other j f.1) in omega (arith, same))
          ]

      -- the leaf is at the start of the section, which is covered
      its_costs : IsCovered d.system new (λ r. bank_part r w new)
      its_costs =
          let server = its_server promised d.system sure w linked typed d.x d.component leaf_then at leaf_there current_then new refl session_now in
          let opens = active_open promised d.system sure w linked typed k new session_now d.x leaf_then leaf_there handling_blocked server in
          handling_bounded promised d.system sure w linked typed d.x d.component leaf_then at leaf_there current_then new refl session_now opens refl

      taken_costs : (j : ℕ) (s : Session) → session_at w j ≡ Some s → CostsWithin d.system w s
      taken_costs j s e =
          elim (eqb_tells j k) [
            | inl f ↦ subst (CostsWithin d.system w) (some_same (sym session_now ∙ (ap (session_at w) (sym f.1) ∙ e))) (record {
              costs = its_costs;
              given = accepted_given d.system q.ask old (held.0 k old there).given (λ i known. found.first held.1 old i there known);
            })
            | inr f ↦ costs_bare d.system s s refl d.world w (λ r. same_part d.world w r taken_less s) (held.0 j s (sym (session_other j f.1) ∙ e))
          ]

      taken_by : AreHeld d.system w
      taken_by = (
        taken_costs,
        subst (λ rs. Each (Gives d.system w) rs) (sym (ap (λ (u : World). u.requests) is_then))
            (each_map (λ u. Gives d.system d.world u × (u.session ≢ k)) (Gives d.system w)
            (λ u g. request_kept d.system d.world w u (λ s e. (s, sym (session_other u.session g.1) ∙ e, refl)) g.0) left
            (none_of (Gives d.system d.world) k left none_left (found.left held.1))),
      )

    pub taken_held : AreHeld d.system w
    taken_held =
        let asked = (oldest_found (IsAsked (links d.world)) d.world d.x d.world.requests (q, left) first).first h.asked in
        let u = session_of_outline (session_at d.world q.session) asked.0 asked.1 in
        taken_by u.0 u.1

  -- THE END OF A SECTION

  -- a signal is taken
  pub reacted_held : (i : ℕ) (signals : List Signal) (event : Event) → take_signal d i signals ≡ Ok (w, event) → AreHeld d.system w
  reacted_held i signals event is = by.holds w event is
    where
      by : Ends (AreHeld d.system) (take_signal d i signals)
      by = need_ends (AreHeld d.system) (section_in (Reacting i) d.component.node.program.sections) MissingSection _
          (λ list. gives _ Quiet (same_held d.system d.world (standing d (reacting_to d.leaf i signals list)) (λ k. refl) refl held))

  -- of one of the leaf's own
  pub own_held : (event : Event) (reacting : Option ℕ) → section_ended d None reacting ≡ Ok (w, event) → AreHeld d.system w
  own_held event reacting is = (own reacting).holds w event is
    where
      serves : AreHeld d.system (standing d (serving d.leaf))
      serves = same_held d.system d.world (standing d (serving d.leaf)) (λ k. refl) refl held

      by : (provides : Option (List ℕ)) (signals : ℕ) → Ends (AreHeld d.system) (main_ended d provides signals)
      by (Some service) signals = gives _ Quiet serves
      by None (suc n) = gives _ Quiet serves
      by None zero = when_ends (AreHeld d.system) _ _ _ (gives (exit_of d) Finished (same_held d.system d.world (exit_of d) (λ k. refl) refl held))

      own : (reacting : Option ℕ) → Ends (AreHeld d.system) (section_ended d None reacting)
      own None = by d.component.node.provides d.component.node.signals
      own (Some i) = gives _ Quiet serves

  -- of a session
  module _ (g : Current) (s : Session) (mine : d.leaf.current ≡ Some g) (found : session_at d.world g.session ≡ Some s)
      (a : Acts promised (IsBounded d.system) d)
      (last : AbstractState) (meets : Meets promised (context (subject d.system d.component) (section_of d.leaf.current d.leaf.reacting)) a.end d.world d.leaf)
      (ends : section_end (subject d.system d.component) (section_of d.leaf.current d.leaf.reacting) a.end ≡ Ok last) (event : Event)
      (is : section_ended d d.leaf.current d.leaf.reacting ≡ Ok (w, event)) where
    abbrev c : Context
    c = context (subject d.system d.component) (section_of d.leaf.current d.leaf.reacting)

    replies : Replies promised c a.end d g s w
    replies =
        replies_ruled promised c d takes h (handling promised (IsBounded d.system) d sure takes h t at g mine a.active) a.end g s w
        (record { meets = meets; last = last; ends = ends; at_current = mine; there = found; event = event; ended = is })

    -- the session is as it was, or gone
    replied_given : (r : Resource) (section : Section) → given_by r (session_replied section s) ≤ given_by r (Some s)
    replied_given r Main = omega arith
    replied_given r Opening = omega arith
    replied_given r (Upgrading l) = omega arith
    replied_given r (Calling l) = omega arith
    replied_given r (Closing l) = omega arith
    replied_given r (Reacting i) = omega arith

    replied_same : (section : Section) (u : Session) → session_replied section s ≡ Some u → s ≡ u
    replied_same Main u e = absurd (none_some e)
    replied_same Opening u e = some_same e
    replied_same (Upgrading l) u e = some_same e
    replied_same (Calling l) u e = some_same e
    replied_same (Closing l) u e = absurd (none_some e)
    replied_same (Reacting i) u e = absurd (none_some e)

    -- the client's slot costs nothing, and has lent no more
    replied_price : (r : Resource) (section : Section) → slot_price r (slot_replied section g.session) ≤ 0
    replied_price r Main = omega arith
    replied_price r Opening = omega arith
    replied_price r (Upgrading l) = omega arith
    replied_price r (Calling l) = omega arith
    replied_price r (Closing l) = omega arith
    replied_price r (Reacting i) = omega arith

    replied_lent : (r : Resource) (section : Section) → slot_given r w (slot_replied section g.session) ≤ given_by r (session_at w g.session)
    replied_lent r Main = omega arith
    replied_lent r Opening = omega arith
    replied_lent r (Upgrading l) = omega arith
    replied_lent r (Calling l) = omega arith
    replied_lent r (Closing l) = omega arith
    replied_lent r (Reacting i) = omega arith

    abbrev slot : Slot
    slot = slot_replied g.section g.session

    ended_less : NoMoreGiven d.world w
    ended_less r j =
        elim (eqb_tells j g.session) [
          | inl f ↦ (
              let was = ap (λ j. given_by r (session_at d.world j)) f.1 ∙ ap (given_by r) found in
              let now = ap (λ j. given_by r (session_at w j)) f.1 ∙ ap (given_by r) replies.session in
              let less = replied_given r g.section in
              omega (arith, was, now, less))
          | inr f ↦ (let same = ap (given_by r) (replies.sessions j f.1) ∙ then_gives r s.slot_id slot j (session_at d.world j) in omega (arith, same))
        ]

    ended_then : (j : ℕ) (u : Session) → j ≢ g.session → session_at w j ≡ Some u → Then s.slot_id slot j (session_at d.world j) u
    ended_then j u ne e = then_parts s.slot_id slot j (session_at d.world j) u (sym (replies.sessions j ne) ∙ e)

    ended_part : (r : Resource) (j : ℕ) (u : Session) → (b : Then s.slot_id slot j (session_at d.world j) u) → bank_part r w u ≤ bank_part r d.world b.old
    ended_part r j u b = by b.change
      where
        by : ((u ≡ b.old) × ((n : ℕ) → In_session j n ≢ s.slot_id))
            ⊎ ((i : ℕ) × (s.slot_id ≡ In_session j i) × (u ≡ record b.old { slots = slice_set b.old.slots i slot })) → bank_part r w u ≤ bank_part r d.world
            b.old
        by (inl e) = subst (λ u. bank_part r w u ≤ bank_part r d.world b.old) (sym e.0) (same_part d.world w r ended_less b.old)
        by (inr e) =
            let waited : slice_get b.old.slots e.0 ≡ Some (Waiting g.session) =
            sym (ap (λ o. session_slot o e.0) b.was) ∙ (ap (slot_at d.world) (sym e.1) ∙ replies.waited) in
            let price = replied_price r g.section in
            let lent = replied_lent r g.section in
            subst (λ u. bank_part r w u ≤ bank_part r d.world b.old) (sym e.2)
            (set_part d.world w r ended_less b.old e.0 (Waiting g.session) slot waited (omega (arith, price)) lent)

    ended_costs : (j : ℕ) (u : Session) → session_at w j ≡ Some u → CostsWithin d.system w u
    ended_costs j u e =
        elim (eqb_tells j g.session) [
          | inl f ↦ subst (CostsWithin d.system w) (replied_same g.section u (sym replies.session ∙ (ap (session_at w) (sym f.1) ∙ e)))
              (costs_bare d.system s s refl d.world w (λ r. same_part d.world w r ended_less s) (held.0 g.session s found))
          | inr f ↦ (let b = ended_then j u f.1 e in costs_bare d.system b.old u b.rest d.world w (λ r. ended_part r j u b) (held.0 j b.old b.was))
        ]

    ended_was : (j : ℕ) (u : Session) → session_at w j ≡ Some u → WasSo d.world j u
    ended_was j u e =
        elim (eqb_tells j g.session) [
          | inl f ↦ (s, ap (session_at d.world) f.1 ∙ found, ap bare (sym (replied_same g.section u (sym replies.session ∙ (ap (session_at w) (sym f.1) ∙ e)))))
          | inr f ↦ (let b = ended_then j u f.1 e in (b.old, b.was, b.rest))
        ]

    pub replied_held : AreHeld d.system w
    replied_held = (ended_costs, requests_kept d.system d.world w replies.requests ended_was held.1)
