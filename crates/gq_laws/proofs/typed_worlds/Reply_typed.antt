-- The end of a section for a session keeps worlds typed: its server waits for a request, and its client goes on with the reply.
use Rattle.std.proofs.Common.{◌≡◌, ◌≢◌, ◌≤◌, ◌==◌, ℕ, inl, inr, cond, Bool, true, false, length, Option, Some, None, Ok, refl, ap, sym, ◌∙◌, subst, arith}
use Rattle.std.specs.Prelude.{slice_get, slice_set}
use Rattle.std.proofs.lemmas.Bool.Decides.{eqb_tells}
use Rattle.gq_model.specs.machine.Lists.{or_first}
use Rattle.gq_model.specs.declared.program.Form.TheVariants.{Slice}
use Rattle.gq_model.specs.declared.section.Section.{Section}
use Rattle.gq_model.specs.declared.section.Section.TheVariants.{Main, Opening, Upgrading, Calling, Closing, Reacting}
use Rattle.gq_model.specs.declared.phase.Phase.TheVariants.{Blocked, Handling}
use Rattle.gq_model.specs.machine.Scenario.{Component, interface_in, number_of}
use Rattle.gq_model.specs.machine.World.{Slot, SlotId, In_leaf, In_session, In_object, Session, Request, Current, Leaf, World, session_at, section_of}
use Rattle.gq_model.specs.machine.Doing.{Doing, Event}
use Rattle.gq_model.specs.machine.Step.{section_for, serving, resumed, section_ended, level_then}
use Rattle.gq_model.specs.rules.Kinds.{Kind, Memory, Link_kind, AbstractState, Context, Subject, no_kinds}
use Rattle.gq_model.specs.rules.Flow.{context, own_after, bank_at, section_end}
use Rattle.gq_model.specs.rules.Use.{subject}
use Rattle.gq_model.specs.rules.Verdict.{is_wanted}
use Rattle.gq_laws.specs.Current_section_facts.{section_if, current_section, section_asked, kind_replied, within, bank_kinds}
use Rattle.gq_laws.specs.Shapes.{Each}
use Rattle.gq_laws.specs.Session_links.{Waits, naming_in, one_if, requests_of, at_current, IsAt, Handles, stance, outline, outline_in, Links, links}
use Rattle.gq_laws.specs.Session_links.{IsLinkedWorld}
use Rattle.gq_laws.specs.Typed.{IsKind, AreKinds, Meets}
use Rattle.gq_laws.specs.Inside_steps.{TakesLeaf, bare}
use Rattle.gq_laws.specs.Asking.{IsWithin}
use Rattle.gq_laws.specs.Reply_stances.{HasEnded, Replies, Resumes, session_replied, bank_then, session_then, slot_replied, own_then, resuming, once_replied}
use Rattle.gq_laws.specs.Typing.{Extra, kind_then, IsAwaited, IsInSection, StandsBy, RestsAt, FitsService, FitsRequest, IsTypedBy}
use Rattle.gq_laws.specs.internal.Carrying.{Carries}
use Rattle.gq_model.proofs.Small_facts.{some_same, none_some}
use Rattle.gq_laws.proofs.session_links.Asked_request_changes.{each_map}
use Rattle.gq_laws.proofs.reply_rules.World_after_reply.{replies_ruled}
use Rattle.gq_laws.proofs.reply_rules.Stance_after_reply.{resumes_ruled}
use Rattle.gq_laws.proofs.verified_programs.Sure_system_facts.{IsSure}
use Rattle.gq_laws.proofs.typed_worlds.Promised_stance_transfer.{kind_same, asked_same, waiting_none, none_asked, if_here, stands_else}
use Rattle.gq_laws.proofs.typed_worlds.Typed_world_promises.{stood}
use Rattle.gq_laws.proofs.typed_worlds.Inside_step_typed.{IsActive, stands_active, current_else}

-- a section of a session that stays open leaves its slots so at this level
abbrev pub LeavesBank : Subject → Section → AbstractState → ℕ → Type 0
LeavesBank v (Closing l) end level = Unit {0}
LeavesBank v _ end level = end.bank ≡ bank_at v level

-- the rest of a session after another slot of its was written
then_same : (q : SlotId) (slot : Slot) (j : ℕ) (o : Option Session) (s : Session) → session_then q slot j o ≡ Some s
    → (old : Session) × (o ≡ Some old) × (bare s ≡ bare old) × (s.object ≡ old.object)
then_same (In_leaf x i) slot j None s e = absurd (none_some e)
then_same (In_leaf x i) slot j (Some old) s e = (old, refl, ap bare (sym (some_same e)), ap (λ u. u.object) (sym (some_same e)))
then_same (In_object k) slot j None s e = absurd (none_some e)
then_same (In_object k) slot j (Some old) s e = (old, refl, ap bare (sym (some_same e)), ap (λ u. u.object) (sym (some_same e)))
then_same (In_session k i) slot j o s e = by (j == k) o e
  where
    by : (b : Bool) (o : Option Session) → cond b (bank_then i slot o) o ≡ Some s
        → (old : Session) × (o ≡ Some old) × (bare s ≡ bare old) × (s.object ≡ old.object)
    by true None f = absurd (none_some f)
    by true (Some old) f = (old, refl, ap bare (sym (some_same f)), ap (λ u. u.object) (sym (some_same f)))
    by false None f = absurd (none_some f)
    by false (Some old) f = (old, refl, ap bare (sym (some_same f)), ap (λ u. u.object) (sym (some_same f)))

then_there : (q : SlotId) (slot : Slot) (j : ℕ) (old : Session) → (s : Session) × (session_then q slot j (Some old) ≡ Some s)
then_there (In_leaf x i) slot j old = (old, refl)
then_there (In_object k) slot j old = (old, refl)
then_there (In_session k i) slot j old = by (j == k)
  where
    by : (b : Bool) → (s : Session) × (cond b (bank_then i slot (Some old)) (Some old) ≡ Some s)
    by true = (record old { slots = slice_set old.slots i slot }, refl)
    by false = (old, refl)

resumed_active : (o : Option Current) (reacting : Option ℕ) → IsActive (resumed o reacting)
resumed_active None None = inl refl
resumed_active None (Some i) = inr refl
resumed_active (Some g) reacting = inr refl

module _ (promised : ℕ → Option Kind) (before : Extra) (d : Doing) (sure : IsSure d.system) (takes : TakesLeaf d) (h : IsLinkedWorld d.system d.world)
    (t : IsTypedBy promised before d.system d.world) (at : slice_get d.system.components d.x ≡ Some d.component) (handling : d.leaf.phase ≡ Handling)
    (g : Current) (s : Session) (mine : d.leaf.current ≡ Some g) (found : session_at d.world g.session ≡ Some s) where
  abbrev k : ℕ
  k = g.session

  abbrev v : Subject
  v = subject d.system d.component

  abbrev L : Links
  L = links d.world

  stands_so : L.stances d.x ≡ Some (stance Handling (Some g))
  stands_so = stood d takes ∙ (ap (λ p. Some (stance p d.leaf.current)) handling ∙ ap (λ o. Some (stance Handling o)) mine)

  handled : Handles L d.x g
  handled = h.handles d.x Handling g stands_so

  outlined : handled.0 ≡ outline s
  outlined = some_same (sym handled.1 ∙ ap outline_in found)

  pub its_server : s.server ≡ d.x
  its_server = ap (λ (s : Session). s.server) (sym outlined) ∙ handled.2

  its_accepted : s.accepted ≡ true
  its_accepted = ap (λ (s : Session). s.accepted) (sym outlined) ∙ handled.3

  pub its_level : IsAt g.section s.level
  its_level = subst (λ (s : Session). IsAt g.section s.level) outlined handled.4

  one_current : at_current k (L.stances s.server) ≡ 1
  one_current = ap (λ y. at_current k (L.stances y)) its_server
      ∙ (ap (at_current k) stands_so ∙ elim (eqb_tells k k) [ inl f ↦ ap one_if f.0 | inr f ↦ absurd (f.1 refl) ])

  -- no other request of this session waits
  pub no_request : requests_of k d.world.requests ≡ 0
  no_request =
      elim (h.stands k (outline s) (ap outline_in found)) [
        | inl f ↦ absurd (omega (arith, f.2, one_current))
        | inr f ↦ omega (arith, f.1, one_current)
      ]

  here : section_if k (Some g) ≡ Some g.section
  here = elim (eqb_tells k k) [ inl f ↦ if_here k g f.0 | inr f ↦ absurd (f.1 refl) ]

  old_current : (j : ℕ) → current_section j (slice_get d.world.leaves d.x) ≡ section_if j (Some g)
  old_current j = ap (current_section j) takes.there ∙ ap (section_if j) (sym takes.current ∙ mine)

  -- what it waits for is the current section
  pub asked_current : section_asked d.world k s ≡ Some g.section
  asked_current =
      ap (λ o. or_first o (current_section k (slice_get d.world.leaves s.server))) (waiting_none k s d.world.requests no_request)
      ∙ (ap (λ y. current_section k (slice_get d.world.leaves y)) its_server ∙ (old_current k ∙ here))

  pub promise : promised k ≡ Some (kind_replied g.section s)
  promise = t.reports k s found ∙ ap (λ o. Some (kind_then s o)) asked_current

  module _ (after : Extra) (carries : Carries d.x before after) (end last : AbstractState) (meets : Meets promised (context v g.section) end d.world d.leaf)
      (own : end.own ≡ own_after v) (bank : LeavesBank v g.section end s.level) (provided : v.provided ≡ interface_in s.service d.system.interfaces)
      (ends : section_end v g.section end ≡ Ok last) (w : World) (event : Event) (is : section_ended d d.leaf.current d.leaf.reacting ≡ Ok (w, event)) where
    ended : HasEnded promised (context v g.section) end d g s w
    ended = record { meets = meets; last = last; ends = ends; at_current = mine; there = found; event = event; ended = is }

    r : Replies promised (context v g.section) end d g s w
    r = replies_ruled promised (context v g.section) d takes h handling end g s w ended

    z : Resumes promised (context v g.section) d g s w
    z = resumes_ruled promised (context v g.section) d takes h handling end g s w ended promise

    abbrev slot : Slot
    slot = slot_replied g.section k

    -- HANDS AND REQUESTS

    current_same : (j y : ℕ) → j ≢ k → current_section j (slice_get w.leaves y) ≡ current_section j (slice_get d.world.leaves y)
    current_same j y ne =
        elim (eqb_tells y d.x) [
          | inl f ↦ (ap (λ y. current_section j (slice_get w.leaves y)) f.1
              ∙ (ap (current_section j) r.server
              ∙ (sym (else j ne) ∙ (sym (old_current j) ∙ ap (λ y. current_section j (slice_get d.world.leaves y)) (sym f.1)))))
          | inr f ↦ elim (eqb_tells y s.client) [
            | inl e ↦ (ap (λ y. current_section j (slice_get w.leaves y)) e.1
                ∙ (ap (current_section j) r.goes_on ∙ (sym (ap (current_section j) r.was)
                ∙ ap (λ y. current_section j (slice_get d.world.leaves y)) (sym e.1))))
            | inr e ↦ ap (current_section j) (r.leaves y f.1 e.1)
          ]
        ]
      where
        else : (j : ℕ) → j ≢ k → section_if j (Some g) ≡ None
        else j ne = elim (eqb_tells g.session j) [ inl f ↦ absurd (ne (sym f.1)) | inr f ↦ ap (λ b. cond b (Some g.section) None) f.0 ]

    back : (j : ℕ) (u : Session) → j ≢ k → session_at w j ≡ Some u
        → (old : Session) × (session_at d.world j ≡ Some old) × (bare u ≡ bare old) × (u.object ≡ old.object)
    back j u ne there = then_same s.slot_id slot j (session_at d.world j) u (sym (r.sessions j ne) ∙ there)

    on : (j : ℕ) (old : Session) → j ≢ k → session_at d.world j ≡ Some old → (u : Session) × (session_at w j ≡ Some u) × (bare u ≡ bare old)
    on j old ne there =
        let f = then_there s.slot_id slot j old in
        let now = r.sessions j ne ∙ (ap (session_then s.slot_id slot j) there ∙ f.1) in
        (f.0, now, (let b = back j f.0 ne now in b.2 ∙ ap bare (some_same (sym b.1 ∙ there))))

    asked : (j : ℕ) (old u : Session) → j ≢ k → bare u ≡ bare old → section_asked w j u ≡ section_asked d.world j old
    asked j old u ne e = asked_same d.world w j old u (ap (λ u. u.level) e) (ap (λ u. u.server) e) r.requests (current_same j old.server ne)

    -- the session itself, if it stays
    stays : (u : Session) → session_at w k ≡ Some u → (u ≡ s) × (kind_replied g.section s ≡ Link_kind s.service s.level s.donation)
        × (end.bank ≡ bank_at v s.level)
    stays u there = by g.section (sym r.session ∙ there) its_level bank
      where
        by : (section : Section) → session_replied section s ≡ Some u → IsAt section s.level → LeavesBank v section end s.level
            → (u ≡ s) × (kind_replied section s ≡ Link_kind s.service s.level s.donation) × (end.bank ≡ bank_at v s.level)
        by Main e level b = absurd (none_some e)
        by Opening e level b = (sym (some_same e), ap (λ l. Link_kind s.service l s.donation) level, b)
        by (Upgrading l) e level b = (sym (some_same e), ap (λ l. Link_kind s.service l s.donation) level, b)
        by (Calling l) e level b = (sym (some_same e), ap (λ l. Link_kind s.service l s.donation) level, b)
        by (Closing l) e level b = absurd (none_some e)
        by (Reacting i) e level b = absurd (none_some e)

    no_more : section_asked w k s ≡ None
    no_more =
        ap (λ o. or_first o (current_section k (slice_get w.leaves s.server))) (waiting_none k s w.requests (ap (requests_of k) r.requests ∙ no_request))
        ∙ (ap (λ y. current_section k (slice_get w.leaves y)) its_server ∙ ap (current_section k) r.server)

    reported : (j : ℕ) (u : Session) → session_at w j ≡ Some u → promised j ≡ Some (kind_then u (section_asked w j u))
    reported j u there =
        elim (eqb_tells j k) [
          | inl f ↦ (let e = stays u (ap (session_at w) (sym f.1) ∙ there) in
              ap promised f.1 ∙ (promise ∙ (ap Some e.1 ∙ (ap (λ o. Some (kind_then s o)) (sym no_more)
              ∙ (ap (λ u. Some (kind_then u (section_asked w k u))) (sym e.0) ∙ ap (λ j. Some (kind_then u (section_asked w j u))) (sym f.1))))))
          | inr f ↦ (let b = back j u f.1 there in t.reports j b.0 b.1
              ∙ ap Some (sym (ap (kind_then u) (asked j b.0 u f.1 b.2) ∙ kind_same (section_asked d.world j b.0) b.0 u b.2)))
        ]

    -- LEAVES

    -- a session for which another leaf waits is another
    else_client : (y : ℕ) → y ≢ s.client → (j : ℕ) (u : Session) → session_at d.world j ≡ Some u → u.client ≡ y → j ≢ k
    else_client y ne j u there client same = ne (sym client ∙ ap (λ (u : Session). u.client) (some_same (sym there ∙ (ap (session_at d.world) same ∙ found))))

    awaited : (y : ℕ) → y ≢ s.client → (state next : AbstractState) → IsAwaited d.system d.world y state next → IsAwaited d.system w y state next
    awaited y ne state next a =
        let other = else_client y ne a.k a.session a.there a.client in
        let f = on a.k a.session other a.there in
        record {
          k = a.k;
          session = f.0;
          section = a.section;
          there = f.1;
          client = ap (λ u. u.client) f.2 ∙ a.client;
          asked = asked a.k a.session f.0 other f.2 ∙ a.asked;
          is = subst (λ u. next ≡ once_replied (number_of (interface_in u.service d.system.interfaces) (λ i. i.reply)) a.section state) (sym f.2) a.is;
        }

    -- what the client waits for is this section's reply
    waits_for : (state next : AbstractState) → IsAwaited d.system d.world s.client state next
        → next ≡ once_replied (number_of (interface_in s.service d.system.interfaces) (λ i. i.reply)) g.section state
    waits_for state next a =
        let waits : L.slots a.session.slot_id ≡ Some (Waits a.k) = elim (h.stands a.k (outline a.session) (ap outline_in a.there)) [
          | inl f ↦ absurd (none_some (sym (none_asked d.world a.k a.session f.2) ∙ a.asked))
          | inr f ↦ f.0
        ] in
        let same : a.k ≡ k = h.alone a.k k (outline a.session) (outline s) (ap outline_in a.there) (ap outline_in found) waits
        (ap naming_in r.waited) a.client in
        let session : a.session ≡ s = some_same (sym a.there ∙ (ap (session_at d.world) same ∙ found)) in
        let section : a.section ≡ g.section = some_same (sym a.asked
        ∙ (ap (λ j. section_asked d.world j a.session) same ∙ (ap (section_asked d.world k) session ∙ asked_current))) in
        a.is ∙ (ap (λ (u : Session). once_replied (number_of (interface_in u.service d.system.interfaces) (λ i. i.reply)) a.section state) session
        ∙ ap (λ q. once_replied (number_of (interface_in s.service d.system.interfaces) (λ i. i.reply)) q state) section)

    client_stands : (c : Component) → slice_get d.system.components s.client ≡ Some c → (leaf : Leaf) → slice_get w.leaves s.client ≡ Some leaf
        → StandsBy promised after d.system w s.client c leaf leaf.phase
    client_stands c placed leaf there =
        let i : IsInSection promised before d.system d.world s.client c r.client Blocked (section_of r.client.current r.client.reacting) =
        subst (StandsBy promised before d.system d.world s.client c r.client) r.blocked (t.leaves s.client c r.client placed r.was) in
        let new : Leaf = resuming r.client r.operands (own_then s.slot_id slot r.client.slots) in
        let e : Context = within (context (subject d.system c) (section_of r.client.current r.client.reacting)) r.client.loops in
        let m = z.client e i.state r.client r.was i.meets in
        let is_new : m.0 ≡ new = some_same (sym m.1 ∙ r.goes_on) in
        let replied : once_replied (number_of v.provided (λ i. i.reply)) g.section i.state ≡ i.next =
        ap (λ o. once_replied (number_of o (λ i. i.reply)) g.section i.state) provided ∙ sym (waits_for i.state i.next i.from) in
        let meets_new : Meets promised e i.next w new = subst (λ l. Meets promised e i.next w l) is_new (subst (λ st. Meets promised e st w m.0) replied m.2) in
        subst (λ l. StandsBy promised after d.system w s.client c l l.phase) (some_same (sym r.goes_on ∙ there))
        (stands_active promised after d.system s.client c w new (resumed r.client.current r.client.reacting)
        (resumed_active r.client.current r.client.reacting) i.next i.end meets_new i.goes_on i.whole i.listed
        (carries s.client (section_of r.client.current r.client.reacting) i.next r.client.todo r.client.loops r.other i.also))

    leaf_stands : (y : ℕ) (c : Component) (leaf : Leaf) → slice_get d.system.components y ≡ Some c → slice_get w.leaves y ≡ Some leaf
        → StandsBy promised after d.system w y c leaf leaf.phase
    leaf_stands y c leaf placed there = elim (eqb_tells y d.x) [
      | inl f ↦ server f.1
      | inr f ↦ elim (eqb_tells y s.client) [ inl e ↦ client e.1 | inr e ↦ else f.1 e.1 ]
    ]
      where
        server : y ≡ d.x → StandsBy promised after d.system w y c leaf leaf.phase
        server e =
            let component : c ≡ d.component = some_same (sym placed ∙ (ap (slice_get d.system.components) e ∙ at)) in
            let same : leaf ≡ serving d.leaf = some_same (sym there ∙ (ap (slice_get w.leaves) e ∙ r.server)) in
            let kinds : AreKinds promised d.leaf.slots (own_after (subject d.system c)) =
            subst (λ c. AreKinds promised d.leaf.slots (own_after (subject d.system c))) (sym component)
            (subst (AreKinds promised d.leaf.slots) own meets.own) in
            subst (λ l. StandsBy promised after d.system w y c l l.phase) (sym same) kinds

        client : y ≡ s.client → StandsBy promised after d.system w y c leaf leaf.phase
        client e = subst (λ y. StandsBy promised after d.system w y c leaf leaf.phase) (sym e)
            (client_stands c (sym (ap (slice_get d.system.components) e) ∙ placed) leaf (sym (ap (slice_get w.leaves) e) ∙ there))

        else : y ≢ d.x → y ≢ s.client → StandsBy promised after d.system w y c leaf leaf.phase
        else ne not_client =
            let was = sym (r.leaves y ne not_client) ∙ there in
            stands_else promised promised before after d.system d.world w y c leaf
            (λ e state m. z.others e state leaf (λ b is. current_else d takes h y leaf ne was b is d.leaf.current refl) m) (λ ks a. a) (awaited y not_client)
            (λ section state todo loops. carries y section state todo loops ne) leaf.phase (t.leaves y c leaf placed was)

    -- SESSIONS AND REQUESTS

    session_stays : FitsService promised d.system d.world k s → (u : Session) → session_at w k ≡ Some u → FitsService promised d.system w k u
    session_stays f u there =
        let e = stays u there in
        subst (FitsService promised d.system w k) (sym e.0) (record {
          interface = f.interface;
          known = f.known;
          level = f.level;
          rests = λ server placed none.
              let component : server ≡ d.component = some_same (sym placed ∙ (ap (slice_get d.system.components) its_server ∙ at)) in
              subst (λ c. RestsAt promised d.system c s) (sym component) (record {
                bank = subst (λ b. AreKinds promised s.slots (cond b (bank_at v s.level) no_kinds)) (sym its_accepted)
                    (subst (AreKinds promised s.slots) e.2 r.bank.slots);
                object = λ accepted. r.bank.object;
              });
        })

    session_fits : (j : ℕ) (u : Session) → session_at w j ≡ Some u → FitsService promised d.system w j u
    session_fits j u there = elim (eqb_tells j k) [ inl f ↦ here f.1 | inr f ↦ else f.1 ]
      where
        here : j ≡ k → FitsService promised d.system w j u
        here e = subst (λ j. FitsService promised d.system w j u) (sym e) (session_stays (t.sessions k s found) u (sym (ap (session_at w) e) ∙ there))

        else : j ≢ k → FitsService promised d.system w j u
        else ne =
            let b = back j u ne there in
            let f = t.sessions j b.0 b.1 in
            record {
              interface = f.interface;
              known = subst (λ u. interface_in u.service d.system.interfaces ≡ Some f.interface) (sym b.2) f.known;
              level = subst (λ u. u.level ≤ length f.interface.upgrades) (sym b.2) f.level;
              rests = λ server placed none.
                  let was = sym (current_same j b.0.server ne) ∙ (ap (λ u. current_section j (slice_get w.leaves u.server)) (sym b.2) ∙ none) in
                  let o = f.rests server (ap (λ u. slice_get d.system.components u.server) (sym b.2) ∙ placed) was in
                  let n = z.sessions j b.0 (bank_kinds d.system server b.0) ne b.1 o.bank in
                  record {
                    bank = subst (λ x. AreKinds promised u.slots (bank_kinds d.system server x)) (sym b.2)
                        (subst (λ x. AreKinds promised x.slots (bank_kinds d.system server b.0)) (some_same (sym n.1 ∙ there)) n.4);
                    object = λ accepted. subst (λ slot. IsKind promised slot (Memory Slice (number_of (subject d.system server).provided (λ i. i.object))))
                        (sym b.3) (o.object (ap (λ u. u.accepted) (sym b.2) ∙ accepted));
                  };
            }

    request_fits : (q : Request) → FitsRequest d.system d.world q → FitsRequest d.system w q
    request_fits q f u there = elim (eqb_tells q.session k) [ inl e ↦ here e.1 | inr e ↦ else e.1 ]
      where
        here : q.session ≡ k → IsWithin d.system u.service q.ask
            × (is_wanted (interface_in u.service d.system.interfaces) 0 (section_for q.ask (level_then q.ask u.level)) ≡ true)
        here e = f u (ap (session_at d.world) e ∙ (found ∙ ap Some (sym (stays u (sym (ap (session_at w) e) ∙ there)).0)))

        else : q.session ≢ k → IsWithin d.system u.service q.ask
            × (is_wanted (interface_in u.service d.system.interfaces) 0 (section_for q.ask (level_then q.ask u.level)) ≡ true)
        else ne =
            let b = back q.session u ne there in
            subst (λ u. IsWithin d.system u.service q.ask × (is_wanted (interface_in u.service d.system.interfaces) 0
            (section_for q.ask (level_then q.ask u.level)) ≡ true)) (sym b.2) (f b.0 b.1)

    pub replied_typed : IsTypedBy promised after d.system w
    replied_typed =
        record {
          reports = reported;
          leaves = leaf_stands;
          sessions = session_fits;
          requests = subst (λ rs. Each (FitsRequest d.system w) rs) (sym r.requests)
              (each_map (FitsRequest d.system d.world) (FitsRequest d.system w) request_fits d.world.requests t.requests);
        }
