-- The slots and the object of a session current at a leaf cost no more than its level needs, where the leaf stands at a point of its section and none of them
-- is
-- being closed.
use Rattle.std.proofs.Common.{◌≡◌, ◌≢◌, ℕ, ◌+◌, ◌≤◌, List, [], ◌∷◌, Option, Some, refl, ap, sym, ◌∙◌, subst, arith}
use Rattle.std.specs.Prelude.{slice_get}
use Rattle.std.proofs.lemmas.List.Sums.{sum_by-cons}
use Rattle.gq_model.specs.machine.Amounts.{Resource, part}
use Rattle.gq_model.specs.machine.Resource_prices.{price_memory}
use Rattle.gq_model.specs.declared.program.Form.TheVariants.{Slice}
use Rattle.gq_model.specs.declared.section.Section.{Section}
use Rattle.gq_model.specs.declared.section.Section.TheVariants.{Main, Opening, Upgrading, Calling, Closing, Reacting}
use Rattle.gq_model.specs.declared.phase.Phase.{Phase}
use Rattle.gq_model.specs.declared.phase.Phase.TheVariants.{Pending, Running, Blocked, Serving, Handling, Exited}
use Rattle.gq_model.specs.machine.Scenario.{Interface, System, Component, interface_in, number_of}
use Rattle.gq_model.specs.machine.World.{Slot, Empty, Waiting, Bytes, Pool, Link, In_session, In_object, Session, Current, Leaf, World, session_at, slot_at}
use Rattle.gq_model.specs.machine.World.{session_slot, session_object}
use Rattle.gq_model.specs.machine.Sums.{slot_price}
use Rattle.gq_model.specs.rules.Kinds.{Kind, Memory, AbstractState, kind_price, kinds_cost, session_cost, need_of}
use Rattle.gq_model.specs.machine.Sections.{level_of}
use Rattle.gq_model.specs.rules.Use.{subject}
use Rattle.gq_laws.specs.Current_section_facts.{section_asked}
use Rattle.gq_model.specs.Promises.{EachOf}
use Rattle.gq_laws.specs.Shapes.{Each}
use Rattle.gq_laws.specs.Session_links.{Waits, naming_in, outline, outline_in, stance, stance_in, links, Belongs, IsAt, Handles, IsLinkedWorld}
use Rattle.gq_laws.specs.Typed.{IsKind, AreKinds, IsCurrent, CurrentMeets}
use Rattle.gq_laws.specs.Reply_stances.{once_replied}
use Rattle.gq_laws.specs.Typing.{GoesOnFrom, IsInSection, StandsBy, IsTypedBy}
use Rattle.gq_model.specs.machine.World.{section_of}
use Rattle.gq_laws.specs.internal.Verified_holdings.{IsBounded, bank_part}
use Rattle.gq_model.proofs.Small_facts.{some_same}
use Rattle.gq_laws.proofs.session_links.Asked_request_changes.{same_phase}
use Rattle.gq_laws.proofs.typed_worlds.Typed_world_promises.{provided_current}
use Rattle.gq_laws.proofs.session_links.Linked_after_reply.{session_of_outline}
use Rattle.gq_laws.proofs.verified_programs.Kind_costs.{StaysOpen, NoClose, each_found, linked_named, linked_no_close, slots_price, slots_cost}
use Rattle.gq_laws.proofs.verified_programs.Sure_system_facts.{IsSure}
use Rattle.gq_model.specs.machine.Doing.{need}

-- what follows for each resource follows for all of these
pub each_of : (resources : List Resource) (P Q : Resource → Type 0) → ((r : Resource) → P r → Q r) → EachOf resources P → EachOf resources Q
each_of [] P Q f h = tt
each_of (r ∷ rest) P Q f h = (f r h.0, each_of rest P Q f h.1)

level_is : (section : Section) (level : ℕ) → IsAt section level → level_of section ≡ level
level_is Main level at = absurd at
level_is Opening level at = at
level_is (Upgrading l) level at = at
level_is (Calling l) level at = at
level_is (Closing l) level at = at
level_is (Reacting i) level at = absurd at

-- a reply changes no slot of the current session
replied_bank : (most : ℕ) (section : Section) (state : AbstractState) → (once_replied most section state).bank ≡ state.bank
replied_bank most Main state = refl
replied_bank most Opening state = refl
replied_bank most (Upgrading l) state = refl
replied_bank most (Calling l) state = refl
replied_bank most (Closing l) state = refl
replied_bank most (Reacting i) state = refl

from_bank : (system : System) (w : World) (x : ℕ) (phase : Phase) (state next : AbstractState) → GoesOnFrom system w x phase state next → next.bank ≡ state.bank
from_bank system w x Pending state next e = ap (λ (s : AbstractState). s.bank) e
from_bank system w x Running state next e = ap (λ (s : AbstractState). s.bank) e
from_bank system w x Blocked state next e = ap (λ (s : AbstractState). s.bank) e.is ∙ replied_bank _ e.section state
from_bank system w x Serving state next e = ap (λ (s : AbstractState). s.bank) e
from_bank system w x Handling state next e = ap (λ (s : AbstractState). s.bank) e
from_bank system w x Exited state next e = ap (λ (s : AbstractState). s.bank) e

module _ (promised : ℕ → Option Kind) (system : System) (sure : IsSure system) (w : World) (h : IsLinkedWorld system w)
    (t : IsTypedBy promised (IsBounded system) system w) where
  -- SLOTS

  module _ (j : ℕ) (s : Session) (there : session_at w j ≡ Some s) where
    -- a slot of a session names one that stays open, if those for which the server waits do
    slot_open : ((k : ℕ) (u : Session) → session_at w k ≡ Some u → (links w).slots u.slot_id ≡ Some (Waits k) → u.client ≡ s.server
        → StaysOpen (section_asked w k u)) → (i : ℕ) (slot : Slot) → slot_at w (In_session j i) ≡ Some slot → NoClose w slot
    slot_open waits i Empty e = tt
    slot_open waits i (Bytes form n bytes) e = tt
    slot_open waits i (Pool n entries) e = tt
    slot_open waits i (Link k) e = linked_no_close promised system w h t.reports (In_session j i) k e
    slot_open waits i (Waiting k) e =
        let n = h.named (In_session j i) (Waits k) (ap naming_in e) in
        let u = session_of_outline (session_at w k) n.0 n.1 in
        let slot_id : u.0.slot_id ≡ In_session j i = ap (λ (s : Session). s.slot_id) u.2 ∙ n.2 in
        let b = subst (λ q. Belongs (links w) q u.0.client) slot_id (h.belongs k (outline u.0) (ap outline_in u.1)) in
        let server : s.server ≡ u.0.client = ap (λ (s : Session). s.server) (some_same (sym (ap outline_in there) ∙ b.1)) ∙ b.3 in
        (u.0, u.1, waits k u.0 u.1 (ap (λ q. naming_in (slot_at w q)) slot_id ∙ ap naming_in e) (sym server))

    pub bank_open : ((k : ℕ) (u : Session) → session_at w k ≡ Some u → (links w).slots u.slot_id ≡ Some (Waits k) → u.client ≡ s.server
        → StaysOpen (section_asked w k u)) → Each (NoClose w) s.slots
    bank_open waits = each_found (NoClose w) s.slots (λ i slot e. slot_open waits i slot (ap (λ o. session_slot o i) there ∙ e))

    -- a leaf that is not blocked waits for none
    pub active_open : (x : ℕ) (leaf : Leaf) → slice_get w.leaves x ≡ Some leaf → leaf.phase ≢ Blocked → s.server ≡ x → Each (NoClose w) s.slots
    active_open x leaf at active server =
        bank_open (λ k u found waits client.
        let f = h.waits k (outline u) (ap outline_in found) waits in
        absurd (active (same_phase (sym (ap stance_in at) ∙ (ap (links w).stances (sym (client ∙ server)) ∙ f.1)))))

  -- THE SESSION AT HAND

  module _ (x : ℕ) (c : Component) (leaf : Leaf) (at : slice_get system.components x ≡ Some c) (there : slice_get w.leaves x ≡ Some leaf) (g : Current)
      (s : Session) (mine : leaf.current ≡ Some g) (found : session_at w g.session ≡ Some s) where
    handled : Handles (links w) x g
    handled = h.handles x leaf.phase g (ap stance_in there ∙ ap (λ o. Some (stance leaf.phase o)) mine)

    its_level : IsAt g.section s.level
    its_level = subst (λ (u : Session). IsAt g.section u.level) (some_same (sym handled.1 ∙ ap outline_in found)) handled.4

    pub its_server : s.server ≡ x
    its_server = ap (λ (u : Session). u.server) (sym (some_same (sym handled.1 ∙ ap outline_in found))) ∙ handled.2

    provided : interface_in s.service system.interfaces ≡ (subject system c).provided
    provided = (provided_current promised (IsBounded system) system sure w h t x c leaf.phase leaf.current at (ap stance_in there) g s mine found).1

    module _ (opens : Each (NoClose w) s.slots) where
      -- it costs what its kinds cost
      bank_cost : (r : Resource) (n : ℕ) (kinds : List Kind) → AreKinds promised s.slots kinds → IsKind promised s.object (Memory Slice n)
          → bank_part r w s ≡ price_memory r Slice n + kinds_cost r kinds
      bank_cost r n kinds slots object =
          let one = slots_price r promised w t.reports (s.object ∷ []) (Memory Slice n ∷ []) (object, tt)
          (linked_named system w h (In_object g.session) s.object (ap session_object found), tt) in
          let cost = slots_cost r promised w t.reports s.slots kinds slots opens in
          omega (arith, one, cost, sum_by-cons (slot_price r) s.object [], sum_by-cons (kind_price r) (Memory Slice n) [])

      -- no more than is needed for it
      pub bank_bounded : (phase : Phase) (section : Section) → IsInSection promised (IsBounded system) system w x c leaf phase section
          → (i : Interface) → interface_in s.service system.interfaces ≡ Some i → EachOf i.counted (λ r. bank_part r w s ≤ part r (need_of i s.level))
      bank_bounded phase section b i known =
          let v = subject system c in
          let current : IsCurrent section (Some g) leaf.reacting = subst (λ o. IsCurrent section o leaf.reacting) mine b.meets.current in
          let m : CurrentMeets promised _ b.state.bank w (Some g) = subst (CurrentMeets promised _ b.state.bank w) mine b.meets.bank in
          let is : m.0 ≡ s = some_same (sym m.1 ∙ found) in
          let provides : v.provided ≡ Some i = sym provided ∙ known in
          let level : level_of section ≡ s.level = ap level_of (sym current.0) ∙ level_is g.section s.level its_level in
          let slots : AreKinds promised s.slots b.state.bank = subst (λ (u : Session). AreKinds promised u.slots b.state.bank) is m.2.slots in
          let object : IsKind promised s.object (Memory Slice i.object) =
          subst (λ o. IsKind promised s.object (Memory Slice (number_of o (λ i. i.object)))) provides
          (subst (λ (u : Session). IsKind promised u.object (Memory Slice (number_of v.provided (λ i. i.object)))) is m.2.object) in
          let covers = (b.also c at).1 current.1 i provides in
          each_of i.counted _ _ (λ r less.
          let cost = bank_cost r i.object b.state.bank slots object in
          let same = ap (session_cost r i) (from_bank system w x phase b.state b.next b.from) in
          let need = ap (λ l. part r (need_of i l)) level in
          omega (arith, less, cost, same, need)) covers

      -- in the midst of the section, or while it waits there for a reply
      pub handling_bounded : leaf.phase ≡ Handling → (i : Interface) → interface_in s.service system.interfaces ≡ Some i
          → EachOf i.counted (λ r. bank_part r w s ≤ part r (need_of i s.level))
      handling_bounded e = bank_bounded Handling (section_of leaf.current leaf.reacting)
          (subst (StandsBy promised (IsBounded system) system w x c leaf) e (t.leaves x c leaf at there))

      pub blocked_bounded : leaf.phase ≡ Blocked → (i : Interface) → interface_in s.service system.interfaces ≡ Some i
          → EachOf i.counted (λ r. bank_part r w s ≤ part r (need_of i s.level))
      blocked_bounded e = bank_bounded Blocked (section_of leaf.current leaf.reacting)
          (subst (StandsBy promised (IsBounded system) system w x c leaf) e (t.leaves x c leaf at there))
