-- A session that a leaf asks for.
use Rattle.std.proofs.Common.{◌≡◌, ◌≢◌, ℕ, zero, suc, Bool, true, false, List, [], ◌∷◌, Option, Some, None, refl, sym, ap, ◌∙◌}
use Rattle.std.specs.Prelude.{Ok, Err, slice_get, slice_set}
use Rattle.gq_tariff.specs.declared.amount.Amount.{Amount}
use Rattle.gq_model.specs.declared.phase.Phase.TheVariants as phase
use Rattle.gq_model.specs.declared.program.OperandSlot.{OperandSlot}
use Rattle.gq_model.specs.declared.program.OperandSlot.TheVariants.{Own, Shared, Object}
use Rattle.gq_model.specs.declared.fault.Wrong.TheVariants.{ExceededQuota, WrongKind}
use Rattle.gq_model.specs.machine.Amounts.{amount}
use Rattle.gq_model.specs.machine.Doing.{Doing, Quiet, Stepped, fill, need}
use Rattle.gq_model.specs.machine.Requests.{add_session, asked, free_place, new_session, open_session}
use Rattle.gq_model.specs.machine.Routes.{server_of}
use Rattle.gq_model.specs.machine.Scenario.{interface_in, open_caps}
use Rattle.gq_model.specs.machine.Sums.{paid}
use Rattle.gq_model.specs.machine.World as world
use Rattle.gq_model.proofs.Small_facts.{none_some}
use Rattle.gq_laws.proofs.session_links.Linked_after_open.{add_else, free_at, free_slot}
use Rattle.gq_laws.proofs.session_links.Written_world_links.{object_there, session_there, slot_here}
use Rattle.gq_store.specs.Store.{Store}
use Rattle.gq_contents.specs.declared.content.Content.{Content}
use Rattle.gq_contents.specs.declared.content.Content.TheVariants.{Empty, Block, Slice, Space, Pool, Link, Waiting}
use Rattle.gq_contents.specs.Contents.{seen}
use Rattle.gq_trade.specs.declared.session.SlotId.{SlotId}
use Rattle.gq_trade.specs.Seen_sessions.{slot_id_seen}
use Rattle.gq_slots.specs.Slots.{Frame, Slots, holder, memory_of, world_seen}
use Rattle.gq_slots.specs.Calls.{PutsSlot}
use Rattle.gq_slots.specs.Session_calls.{asking, opening}
use Rattle.gq_slots.specs.Slot_addresses.{place_seen}
use Rattle.gq_statements.specs.declared.actor.Actor.{Actor}
use Rattle.gq_statements.specs.Slot_statements.{IsBy, current_seen}
use Rattle.gq_statements.proofs.Named_statement_bytes.{same_slot_id}
use Rattle.gq_statements.proofs.Unchanged_slot_world.{with_same}
use Rattle.gq_statements.proofs.Price_neutral_changes.{marked_paid, slot_opening}
use Rattle.gq_statements.specs.Client_requests.{Blocks}
use Rattle.gq_statements.specs.internal.Named_slots.{IsRoomAt}
use Rattle.gq_statements.proofs.Requested_machine_worlds.{asked_paid, asked_unpaid}

-- A SLOT THAT IS EMPTY

pub differs : (b : Bool) → b ≡ false → b ≡ true → ⊥
differs b e f = cc

abbrev Fills : Type 0
Fills = world.World → Stepped

not_empty : (w : world.World) (p : world.SlotId) (st : Store) (t : Content) (slot : world.Slot) (go : Fills) → (t ≡ Empty → ⊥)
    → fill w p (Some (seen st t)) slot go ≡ Err WrongKind
not_empty w p st Empty slot go ne = absurd (ne refl)
not_empty w p st (Block q n) slot go ne = refl
not_empty w p st (Slice k n) slot go ne = refl
not_empty w p st (Space k n) slot go ne = refl
not_empty w p st (Pool q) slot go ne = refl
not_empty w p st (Link k) slot go ne = refl
not_empty w p st (Waiting k) slot go ne = refl

module _ (d : Doing) (a : Actor) (place : OperandSlot) (f : Frame) (s : Slots) (h : IsBy d a) (we : d.world ≡ world_seen f s) where
  pub no_room : (o : Option SlotId) → o ≡ None → place_seen o ≡ world.slot_id_of a.leaf (current_seen a.current) place → IsRoomAt d place None
  no_room o n e slot go =
      ap (λ y. need y WrongKind (λ slot_id. fill d.world slot_id (world.slot_at d.world slot_id) slot (go slot_id)))
      (same_slot_id d a place o h e ∙ ap place_seen n)

  module _ (p : SlotId) (t : Content) (e : place_seen (Some p) ≡ world.slot_id_of a.leaf (current_seen a.current) place)
      (r : world.slot_at (world_seen f s) (slot_id_seen p) ≡ Some (seen (memory_of s (holder s p)) t)) where
    stands : world.slot_at d.world (slot_id_seen p) ≡ Some (seen (memory_of s (holder s p)) t)
    stands = ap (λ w. world.slot_at w (slot_id_seen p)) we ∙ r

    pub taken_room : (t ≡ Empty → ⊥) → IsRoomAt d place None
    taken_room ne slot go =
        ap (λ y. need y WrongKind (λ slot_id. fill d.world slot_id (world.slot_at d.world slot_id) slot (go slot_id))) (same_slot_id d a place (Some p) h e)
        ∙ (ap (λ o. fill d.world (slot_id_seen p) o slot (go (slot_id_seen p))) stands
        ∙ not_empty d.world (slot_id_seen p) (memory_of s (holder s p)) t slot (go (slot_id_seen p)) ne)

    pub free_room : t ≡ Empty → IsRoomAt d place (Some p)
    free_room is = (same_slot_id d a place (Some p) h e, stands ∙ ap (λ y. Some (seen (memory_of s (holder s p)) y)) is)

-- WHEN THE SLOT IS FILLED

set_again : {A : Type 0} (items : List A) (i : ℕ) (a b : A) → slice_set (slice_set items i a) i b ≡ slice_set items i b
set_again [] i a b = refl
set_again (c ∷ rest) zero a b = refl
set_again (c ∷ rest) (suc i) a b = ap (λ l. c ∷ l) (set_again rest i a b)

-- a session is added, and its request to open
abbrev with_new : world.Session → world.World → world.World
with_new q v = record v { sessions = add_session q v.sessions }

abbrev asks : world.World → ℕ → world.World
asks v k = asking v k world.Ask_open

-- so it is where the slot p holds this and the leaf x stands so, the leaf written last
abbrev filled : world.World → world.Session → world.SlotId → world.Slot → ℕ → world.Leaf → world.World
filled w q p slot x leaf = asks (world.with_leaf (with_new q (world.with_slot w p slot)) x leaf) (free_place w.sessions)

module _ (w : world.World) (q : world.Session) (slot : world.Slot) (x : ℕ) (leaf : world.Leaf) where
  abbrev blocked : world.World
  blocked = world.with_leaf w x leaf

  abbrev number : ℕ
  number = free_place w.sessions

  -- where the leaf is then written, what was put into its slot before is gone
  filled_leaf : (i : ℕ) → filled w q (world.In_leaf x i) slot x leaf ≡ opening blocked q
  filled_leaf i = by (slice_get w.leaves x)
    where
      by : (o : Option world.Leaf) → asks (world.with_leaf (with_new q (world.put_leaf_slot w o x i slot)) x leaf) number ≡ opening blocked q
      by None = refl
      by (Some l) =
          ap (λ ls. opening (record { leaves = ls; sessions = w.sessions; requests = w.requests }) q)
          (set_again w.leaves x (record l { slots = slice_set l.slots i slot }) leaf)

  -- a slot of a session stays as it was filled
  again : (p : world.SlotId) (old : world.Slot) → world.slot_at blocked p ≡ Some old
      → world.with_slot (opening (world.with_slot blocked p slot) q) p slot ≡ world.with_slot (opening blocked q) p slot
  again p old e =
      let u = world.with_slot blocked p slot in
      let here = slot_here blocked p slot old e in
      slot_opening u q p slot slot here ∙ (ap (λ y. opening y q) (with_same u p slot here) ∙ sym (slot_opening blocked q p old slot e))

  -- a slot that is filled takes no session's number
  numbered : (p : world.SlotId) → asks (with_new q (world.with_slot blocked p slot)) number ≡ opening (world.with_slot blocked p slot) q
  numbered p = ap (asks (with_new q (world.with_slot blocked p slot))) (sym (free_slot blocked p slot))

  filled_session : (j i : ℕ) → filled w q (world.In_session j i) slot x leaf ≡ opening (world.with_slot blocked (world.In_session j i) slot) q
  filled_session j i = by (world.session_at w j) ∙ numbered (world.In_session j i)
    where
      by : (o : Option world.Session) → asks (world.with_leaf (with_new q (world.put_session_slot w o j i slot)) x leaf) number
          ≡ asks (with_new q (world.put_session_slot blocked o j i slot)) number
      by None = refl
      by (Some t) = refl

  filled_object : (j : ℕ) → filled w q (world.In_object j) slot x leaf ≡ opening (world.with_slot blocked (world.In_object j) slot) q
  filled_object j = by (world.session_at w j) ∙ numbered (world.In_object j)
    where
      by : (o : Option world.Session) → asks (world.with_leaf (with_new q (world.put_object w o j slot)) x leaf) number
          ≡ asks (with_new q (world.put_object blocked o j slot)) number
      by None = refl
      by (Some t) = refl

  -- whether the slot is filled before the leaf is written or behind it, the world is the same
  filled_same : (p : world.SlotId) (old : world.Slot) → ((y i : ℕ) → p ≡ world.In_leaf y i → y ≡ x) → world.slot_at w p ≡ Some old
      → world.with_slot (filled w q p slot x leaf) p slot ≡ world.with_slot (opening blocked q) p slot
  filled_same (world.In_leaf y i) old own e =
      let same = own y i refl in
      ap (λ z. world.with_slot (filled w q (world.In_leaf z i) slot x leaf) (world.In_leaf y i) slot) same
      ∙ ap (λ v. world.with_slot v (world.In_leaf y i) slot) (filled_leaf i)
  filled_same (world.In_session j i) old own e =
      ap (λ v. world.with_slot v (world.In_session j i) slot) (filled_session j i) ∙ again (world.In_session j i) old e
  filled_same (world.In_object j) old own e =
      ap (λ v. world.with_slot v (world.In_object j) slot) (filled_object j) ∙ again (world.In_object j) old e

abbrev leaf_in : Option world.SlotId → ℕ
leaf_in (Some (world.In_leaf y i)) = y
leaf_in _ = 0

-- an operand that names a leaf's own slot names one of the leaf that does the step
own_leaf : (x : ℕ) (h : Option world.Current) (place : OperandSlot) (y i : ℕ) → world.slot_id_of x h place ≡ Some (world.In_leaf y i) → y ≡ x
own_leaf x h (Own j) y i e = sym (ap leaf_in e)
own_leaf x None (Shared j) y i e = cc
own_leaf x None Object y i e = cc
own_leaf x (Some g) (Shared j) y i e = cc
own_leaf x (Some g) Object y i e = cc

-- a session that is added changes no slot that is there
not_free : (w : world.World) (j : ℕ) (t : world.Session) → world.session_at w j ≡ Some t → j ≢ free_place w.sessions
not_free w j t e same = absurd (none_some (sym (free_at w.sessions) ∙ (ap (world.session_at w) (sym same) ∙ e)))

opened_slot : (w : world.World) (q : world.Session) (p : world.SlotId) (old : world.Slot) → world.slot_at w p ≡ Some old
    → world.slot_at (opening w q) p ≡ Some old
opened_slot w q (world.In_leaf x i) old e = e
opened_slot w q (world.In_session j i) old e =
    let f = session_there w j i old e in
    ap (λ o. world.session_slot o i) (add_else q w.sessions j (not_free w j f.0 f.1)) ∙ e
opened_slot w q (world.In_object j) old e =
    let f = object_there w j old e in
    ap world.session_object (add_else q w.sessions j (not_free w j f.0 f.1)) ∙ e

-- OPEN

abbrev Rest : Type 0
Rest = world.SlotId → world.World → Stepped

module _ (d : Doing) (place : OperandSlot) (name : List ℕ) (n : ℕ) where
  abbrev k : ℕ
  k = free_place d.world.sessions

  abbrev gift : Amount
  gift = amount n (open_caps (interface_in name d.system.interfaces))

  -- goes on with the server, and with the donation
  abbrev served : Amount → world.SlotId → world.World → ℕ → Stepped
  served m slot_id w server = asked d (with_new (new_session d.x slot_id server name m) w) slot_id k world.Ask_open

  abbrev rest : Rest
  rest slot_id w = need (server_of d.system d.component name) WrongKind (served gift slot_id w)

  pub open_nowhere : IsRoomAt d place None → open_session d place name n ≡ Err WrongKind
  open_nowhere r = r (world.Waiting k) rest

  module _ (p : SlotId) (r : IsRoomAt d place (Some p)) where
    abbrev marked : world.World
    marked = world.with_slot d.world (slot_id_seen p) (world.Waiting k)

    open_there : open_session d place name n ≡ rest (slot_id_seen p) marked
    open_there =
        ap (λ o. need o WrongKind (λ slot_id. fill d.world slot_id (world.slot_at d.world slot_id) (world.Waiting k) (rest slot_id))) r.0
        ∙ ap (λ o. fill d.world (slot_id_seen p) o (world.Waiting k) (rest (slot_id_seen p))) r.1

    pub open_unserved : server_of d.system d.component name ≡ None → open_session d place name n ≡ Err WrongKind
    open_unserved none = open_there ∙ ap (λ o. need o WrongKind (served gift (slot_id_seen p) marked)) none

    module _ (y : ℕ) (server : server_of d.system d.component name ≡ Some y) (m : Amount) (is : m ≡ gift) (before after : Frame) (s : Slots)
        (b : Blocks d d.leaf before after s) where
      abbrev q : world.Session
      q = new_session d.x (slot_id_seen p) y name m

      open_is : open_session d place name n ≡ served m (slot_id_seen p) marked y
      open_is =
          open_there ∙ (ap (λ o. need o WrongKind (served gift (slot_id_seen p) marked)) server ∙ ap (λ g. served g (slot_id_seen p) marked y) (sym is))

      opens : world.with_slot (filled d.world q (slot_id_seen p) (world.Waiting k) d.x (record d.leaf { phase = phase.Blocked })) (slot_id_seen p)
          (world.Waiting k)
          ≡ world.with_slot (opening (world_seen after s) q) (slot_id_seen p) (world.Waiting k)
      opens =
          filled_same d.world q (world.Waiting k) d.x (record d.leaf { phase = phase.Blocked }) (slot_id_seen p) world.Empty
          (λ z i e. own_leaf d.x d.leaf.current place z i (r.0 ∙ ap Some e)) r.1
          ∙ ap (λ w. world.with_slot (opening w q) (slot_id_seen p) (world.Waiting k)) b.world_after

      pub open_some : (u t : Slots) (j : ℕ) → world_seen after u ≡ opening (world_seen after s) q → j ≡ k → PutsSlot u t p (world.Waiting j)
          → paid d.system (world_seen after t) ≡ true → open_session d place name n ≡ Ok (world_seen after t, Quiet)
      open_some u t j e same puts whole =
          open_is
          ∙ asked_paid d (with_new q marked) (slot_id_seen p) k world.Ask_open (world_seen after t)
          (opens ∙ (λ z. world.with_slot (sym e z) (slot_id_seen p) (world.Waiting (sym same z))) ∙ sym (puts.seen_so after)) whole

      pub open_unpaid : world.slot_at (world_seen after s) (slot_id_seen p) ≡ Some world.Empty → paid d.system (opening (world_seen after s) q) ≡ false
          → open_session d place name n ≡ Err ExceededQuota
      open_unpaid reads lacks =
          let v = opening (world_seen after s) q in
          open_is
          ∙ asked_unpaid d (with_new q marked) (slot_id_seen p) k world.Ask_open
          (world.with_slot v (slot_id_seen p) (world.Waiting k)) opens
          (marked_paid d.system v (slot_id_seen p) world.Empty (world.Waiting k) (opened_slot (world_seen after s) q (slot_id_seen p) world.Empty reads)
          (λ z. refl)
          ∙ lacks)
