-- What the statements' laws take for granted holds in a typed world: links are as promised, with their buffers, and the current session is of the leaf's
-- service.
use Rattle.std.proofs.Common.{◌≡◌, ◌≢◌, ℕ, inl, inr, cond, true, List, Option, Some, None, refl, ap, sym, ◌∙◌, subst, arith}
use Rattle.std.specs.Prelude.{slice_get}
use Rattle.gq_model.specs.machine.Amounts.{Amount}
use Rattle.gq_model.specs.declared.program.Form.{Form}
use Rattle.gq_model.specs.declared.program.Form.TheVariants.{Space}
use Rattle.gq_model.specs.declared.section.Section.{Section}
use Rattle.gq_model.specs.declared.section.Section.TheVariants.{Main, Opening, Upgrading, Calling, Closing, Reacting}
use Rattle.gq_model.specs.declared.phase.Phase.{Phase}
use Rattle.gq_model.specs.declared.phase.Phase.TheVariants.{Blocked}
use Rattle.gq_model.specs.machine.Scenario.{System, Component, interface_in, number_of}
use Rattle.gq_model.specs.machine.World.{Slot, Empty, Bytes, Pool, Link, Waiting, SlotId, In_session, Session, Current, World, session_at, slot_at}
use Rattle.gq_model.specs.machine.World.{session_slot}
use Rattle.gq_model.specs.machine.Memory.{room, buffer_of}
use Rattle.gq_model.specs.machine.Doing.{Doing}
use Rattle.gq_model.specs.rules.Kinds.{Kind, Memory, Pool_kind, Link_kind, no_kinds}
use Rattle.gq_model.specs.rules.Flow.{bank_at}
use Rattle.gq_model.specs.rules.Use.{subject}
use Rattle.gq_laws.specs.Current_section_facts.{section_asked}
use Rattle.gq_laws.specs.Shapes.{AreInputs}
use Rattle.gq_laws.specs.Session_links.{Naming, Leads, Waits, named, naming_in, stance_in, stance, outline, outline_in, pending_of, links, IsLinkedWorld}
use Rattle.gq_laws.specs.Typed.{IsKind, AreKinds, IsLinkKind, PromisesLinks, HasBuffer, SharesBuffers}
use Rattle.gq_laws.specs.Inside_steps.{TakesLeaf, Grants}
use Rattle.gq_laws.specs.Asking.{ReportsLinks}
use Rattle.gq_laws.specs.Typing.{Extra, kind_then, PromisesSessions, IsTypedBy}
use Rattle.gq_model.proofs.Small_facts.{some_same}
use Rattle.gq_laws.proofs.statement_rules.Ruled_slot_kinds.{kinds_get}
use Rattle.gq_laws.proofs.statement_rules.Unblocked_names_nothing.{is_awake}
use Rattle.gq_laws.proofs.typed_worlds.Promised_stance_transfer.{none_asked, current_none}
use Rattle.gq_laws.proofs.verified_programs.Accepted_program_facts.{buffer_at}
use Rattle.gq_laws.proofs.verified_programs.Sure_system_facts.{IsSure}
use Rattle.gq_laws.proofs.session_links.Linked_after_reply.{session_of_outline}

leads_waits : {j k : ℕ} → Some (Leads j) ≡ Some (Waits k) → ⊥
leads_waits e = cc

-- KINDS THAT ARE PROMISED

-- a session's slot holds a link or nothing
abbrev NoMemory : Kind → Type 0
NoMemory (Memory form n) = ⊥
NoMemory _ = Unit {0}

no_memory : (s : Session) (o : Option Section) → NoMemory (kind_then s o)
no_memory s None = tt
no_memory s (Some Main) = tt
no_memory s (Some Opening) = tt
no_memory s (Some (Upgrading l)) = tt
no_memory s (Some (Calling l)) = tt
no_memory s (Some (Closing l)) = tt
no_memory s (Some (Reacting i)) = tt

module _ (promised : ℕ → Option Kind) (system : System) (w : World) (h : IsLinkedWorld system w) (reports : PromisesSessions promised w) where
  -- the session to which a link leads has no request
  pub record IsLed (q : SlotId) (k : ℕ) : Type 0 where
    pub s : Session
    pub there : session_at w k ≡ Some s
    pub accepted : s.accepted ≡ true
    pub pending : pending_of (links w) k s ≡ 0
    pub slot_id : s.slot_id ≡ q

  pub is_led : (q : SlotId) (k : ℕ) → slot_at w q ≡ Some (Link k) → IsLed q k
  is_led q k there =
      let n = h.named q (Leads k) (ap naming_in there) in
      let u = session_of_outline (session_at w k) n.0 n.1 in
      let slot_id : u.0.slot_id ≡ q = ap (λ (s : Session). s.slot_id) u.2 ∙ n.2 in
      elim (h.stands k (outline u.0) (ap outline_in u.1)) [
        | inl l ↦ record { s = u.0; there = u.1; accepted = l.1; pending = l.2; slot_id = slot_id }
        | inr l ↦ absurd (leads_waits (sym (ap naming_in there) ∙ (ap (λ q. naming_in (slot_at w q)) (sym slot_id) ∙ l.0)))
      ]

  pub reports_links : ReportsLinks promised w
  reports_links q k kind there p =
      let l = is_led q k there in (
        l.s,
        l.there,
        some_same (sym p ∙ (reports k l.s l.there ∙ ap (λ o. Some (kind_then l.s o)) (none_asked w k l.s l.pending))),
      )

  pub promises_links : PromisesLinks promised w
  promises_links q k kind there p = let t = reports_links q k kind there p in subst IsLinkKind (sym t.2) tt

  -- of a slot that names a session no memory is promised
  pub named_no_memory : (q : SlotId) (n : Naming) (form : Form) (m : ℕ) → naming_in (slot_at w q) ≡ Some n → promised (named n) ≡ Some (Memory form m) → ⊥
  named_no_memory q n form m there p =
      let f = h.named q n there in
      let u = session_of_outline (session_at w (named n)) f.0 f.1 in
      subst NoMemory (some_same (sym (reports (named n) u.0 u.1) ∙ p)) (no_memory u.0 (section_asked w (named n) u.0))

-- SESSIONS AT REST

module _ (promised : ℕ → Option Kind) (extra : Extra) (system : System) (sure : IsSure system) (w : World) (h : IsLinkedWorld system w)
    (t : IsTypedBy promised extra system w) where
  -- a slot of the kind of memory holds it
  space_there : (k n : ℕ) (slot : Slot) → slot_at w (In_session k 0) ≡ Some slot → IsKind promised slot (Memory Space n)
      → (bytes : List ℕ) × (slot ≡ Bytes Space n bytes) × IsKind promised (Bytes Space n bytes) (Memory Space n)
  space_there k n Empty there is = absurd cc
  space_there k n (Bytes form m bytes) there is = by form m is
    where
      by : (form : Form) (m : ℕ) → IsKind promised (Bytes form m bytes) (Memory Space n)
          → (others : List ℕ) × (Bytes form m bytes ≡ Bytes Space n others) × IsKind promised (Bytes Space n others) (Memory Space n)
      by form m e =
          let same : (Space ≡ form) × (n ≡ m) = parts e.0 in (
            bytes,
            ap (λ f. Bytes f m bytes) (sym same.0) ∙ ap (λ m. Bytes Space m bytes) (sym same.1),
            (refl, e.1 ∙ (ap (λ f. room f m) (sym same.0) ∙ ap (room Space) (sym same.1)), e.2),
          )
        where
          parts : {f g : Form} {a b : ℕ} → Memory f a ≡ Memory g b → (f ≡ g) × (a ≡ b)
          parts e = (cc, cc)
  space_there k n (Pool m entries) there is = absurd (wrong is.0)
    where
      wrong : {a b : ℕ} {f : Form} {m : ℕ} → Memory f m ≡ Pool_kind a b → ⊥
      wrong e = cc
  space_there k n (Link j) there is = absurd (named_no_memory promised system w h t.reports (In_session k 0) (Leads j) Space n (ap naming_in there) is)
  space_there k n (Waiting j) there is = absurd (named_no_memory promised system w h t.reports (In_session k 0) (Waits j) Space n (ap naming_in there) is)

  -- the server's component, and the interface that it provides
  pub record HasServer (s : Session) : Type 0 where
    pub component : Component
    pub there : slice_get system.components s.server ≡ Some component
    pub provides : (subject system component).provided ≡ interface_in s.service system.interfaces

  pub has_server : (k : ℕ) (s : Session) → session_at w k ≡ Some s → HasServer s
  has_server k s there =
      let r = h.routed k (outline s) (ap outline_in there) in
      let d = sure.server s.client s.server r.0 s.service r.1 r.2 in
      record { component = d.0; there = d.1; provides = sure.provides s.client s.server r.0 d.0 s.service r.1 r.2 d.1 }

  -- the current request of a leaf is of the service that it provides
  pub provided_current : (x : ℕ) (c : Component) (phase : Phase) (current : Option Current) → slice_get system.components x ≡ Some c
      → (links w).stances x ≡ Some (stance phase current)
      → (g : Current) (s : Session) → current ≡ Some g → session_at w g.session ≡ Some s
      → (s.server ≡ x) × (interface_in s.service system.interfaces ≡ (subject system c).provided)
  provided_current x c phase current at stands g s is there =
      let f = h.handles x phase g (stands ∙ ap (λ o. Some (stance phase o)) is) in
      let same : f.0 ≡ outline s = some_same (sym f.1 ∙ ap outline_in there) in
      let server : s.server ≡ x = sym (ap (λ (s : Session). s.server) same) ∙ f.2 in
      let v = has_server g.session s there in
      let component : v.component ≡ c = some_same (sym v.there ∙ (ap (slice_get system.components) server ∙ at)) in
      (server, sym v.provides ∙ ap (λ c. (subject system c).provided) component)

  pub shares_buffers : SharesBuffers system promised w
  shares_buffers q k service level given there p some =
      let l = is_led promised system w h t.reports q k there in
      let f = t.sessions k l.s l.there in
      let reported = reports_links promised system w h t.reports q k (Link_kind service level given) there p in
      let same : reported.0 ≡ l.s = some_same (sym reported.1 ∙ l.there) in
      let is_service : l.s.service ≡ service = sym (ap (λ (s : Session). s.service) same) ∙ sym (parts reported.2).0 in
      let v = has_server k l.s l.there in
      let known : (subject system v.component).provided ≡ Some f.interface = v.provides ∙ f.known in
      let buffer : buffer_of system service ≡ f.interface.buffer =
      ap (λ o. number_of o (λ i. i.buffer)) (ap (λ s. interface_in s system.interfaces) (sym is_service) ∙ f.known) in
      let rests = f.rests v.component v.there (current_none k (slice_get w.leaves l.s.server) (omega (arith, l.pending))) in
      let bank : AreKinds promised l.s.slots (bank_at (subject system v.component) l.s.level) =
      subst (λ b. AreKinds promised l.s.slots (cond b (bank_at (subject system v.component) l.s.level) no_kinds)) l.accepted rests.bank in
      let first = buffer_at (subject system v.component) f.interface l.s.level (sure.faultless l.s.server v.component v.there) known
      (sure.upgrades l.s.service f.interface f.known) (omega (arith, some, buffer)) f.level in
      let slot = kinds_get promised l.s.slots (bank_at (subject system v.component) l.s.level) 0 (Memory Space f.interface.buffer) bank first in
      let space = space_there k f.interface.buffer slot.0 (ap (λ o. session_slot o 0) l.there ∙ slot.1) slot.2 in
      let has : HasBuffer f.interface.buffer l.s = record { bytes = space.0; there = slot.1 ∙ ap Some space.1; count = space.2.1; each = space.2.2 } in
      (l.s, l.there, is_service, subst (λ n. HasBuffer n l.s) (sym buffer) has)
    where
      parts : {a b : List ℕ} {l m : ℕ} {g f : Amount} → Link_kind a l g ≡ Link_kind b m f → (a ≡ b) × (l ≡ m)
      parts e = (cc, cc)

-- what the laws of statements take for granted of the leaf that takes a step
pub stood : (d : Doing) → TakesLeaf d → (links d.world).stances d.x ≡ Some (stance d.leaf.phase d.leaf.current)
stood d takes = ap stance_in takes.there ∙ (ap (λ p. Some (stance p takes.old.current)) (sym takes.phase)
    ∙ ap (λ o. Some (stance d.leaf.phase o)) (sym takes.current))

pub grants : (promised : ℕ → Option Kind) (extra : Extra) (d : Doing) → IsSure d.system → IsLinkedWorld d.system d.world
    → IsTypedBy promised extra d.system d.world
    → (section : Section) (counts : List ℕ) → TakesLeaf d → d.leaf.phase ≢ Blocked → slice_get d.system.components d.x ≡ Some d.component
    → AreInputs d.component.node.inputs d.leaf.inputs
    → Grants promised (record { subject = subject d.system d.component; section = section; counts = counts }) d
grants promised extra d sure h t section counts takes awake at low =
    record {
      interfaces = refl;
      provided = λ current s is there. (provided_current promised extra d.system sure d.world h t d.x d.component d.leaf.phase d.leaf.current at
          (stood d takes) current s is there).1;
      links = promises_links promised d.system d.world h t.reports;
      buffers = shares_buffers promised extra d.system sure d.world h t;
      awake = is_awake d takes h awake;
      inputs = low;
    }
