-- Which bytes a statement names.
use Rattle.std.proofs.Common.{◌≡◌, ℕ, List, Option, Some, None, refl, sym, ap, subst, ◌∙◌}
use Rattle.std.specs.Prelude.{Err, IfSome}
use Rattle.gq_model.specs.declared.program.OperandSlot.{OperandSlot}
use Rattle.gq_model.specs.machine.World as world
use Rattle.gq_model.specs.machine.Doing.{Doing, Stepped, need}
use Rattle.gq_model.specs.declared.fault.Wrong.TheVariants.{WrongKind}
use Rattle.gq_model.specs.machine.Memory as memory
use Rattle.gq_model.specs.machine.Memory.{bytes_at, bytes_slot_id}
use Rattle.gq_store.specs.Store.{Store}
use Rattle.gq_store.specs.declared.extent.Extent.{Extent}
use Rattle.gq_contents.specs.declared.content.Content.{Content}
use Rattle.gq_contents.specs.declared.content.Content.TheVariants.{Empty, Block, Slice, Space, Pool, Link, Waiting}
use Rattle.gq_contents.specs.Contents.{bytes_in, extent_of, seen}
use Rattle.gq_trade.specs.declared.session.SlotId.{SlotId}
use Rattle.gq_trade.specs.Seen_sessions.{slot_id_seen}
use Rattle.gq_slots.specs.Slots.{AreRead, Frame, IsExtent, IsSlotId, Slots, holder, memory_of, slot_of, content_at, world_seen}
use Rattle.gq_slots.specs.Slot_addresses.{AreBuffers, extent_at, place_seen}
use Rattle.gq_model.specs.machine.Scenario.{System}
use Rattle.gq_statements.specs.declared.actor.Actor.{Actor}
use Rattle.gq_statements.specs.Slot_statements.{IsBy, current_seen}
use Rattle.gq_statements.specs.internal.Found.{IsFound, with_bytes}

abbrev Go : Type 0
Go = List ℕ → (List ℕ → world.World) → Stepped

-- WHAT A SLOT HOLDS

slot_bytes : (w : world.World) (p : world.SlotId) (st : Store) (t : Content) (x : Extent) (go : Go) → extent_of t ≡ Some x
    → memory.bytes_in w p (Some (seen st t)) go ≡ go (bytes_in (seen st t)) (λ new. world.with_slot w p (with_bytes new (seen st t)))
slot_bytes w p st Empty x go e = cc
slot_bytes w p st (Block q m) x go e = refl
slot_bytes w p st (Slice k m) x go e = refl
slot_bytes w p st (Space k m) x go e = refl
slot_bytes w p st (Pool q) x go e = cc
slot_bytes w p st (Link k) x go e = cc
slot_bytes w p st (Waiting k) x go e = cc

no_bytes : (w : world.World) (p : world.SlotId) (st : Store) (t : Content) (go : Go) → extent_of t ≡ None
    → memory.bytes_in w p (Some (seen st t)) go ≡ Err WrongKind
no_bytes w p st Empty go e = refl
no_bytes w p st (Block q m) go e = cc
no_bytes w p st (Slice k m) go e = cc
no_bytes w p st (Space k m) go e = cc
no_bytes w p st (Pool q) go e = refl
no_bytes w p st (Link k) go e = refl
no_bytes w p st (Waiting k) go e = refl

module _ (d : Doing) (w : world.World) (place : OperandSlot) (s : Slots) where
  -- no slot is named
  pub none_named : world.slot_id_of d.x d.leaf.current place ≡ None → IsFound d w place s None
  none_named e go = ap (λ o. need o WrongKind (λ named.
      need (bytes_slot_id d.system w (world.slot_at w named) named) WrongKind (λ slot_id. memory.bytes_in w slot_id (world.slot_at w slot_id) go))) e

  named_at : (q : world.SlotId) (go : Go) → world.slot_id_of d.x d.leaf.current place ≡ Some q → bytes_at d w place go
      ≡ need (bytes_slot_id d.system w (world.slot_at w q) q) WrongKind (λ slot_id. memory.bytes_in w slot_id (world.slot_at w slot_id) go)
  named_at q go e = ap (λ o. need o WrongKind (λ named.
      need (bytes_slot_id d.system w (world.slot_at w named) named) WrongKind (λ slot_id. memory.bytes_in w slot_id (world.slot_at w slot_id) go))) e

  -- nothing stands behind the slot
  pub nowhere : (q : world.SlotId) → world.slot_id_of d.x d.leaf.current place ≡ Some q → bytes_slot_id d.system w (world.slot_at w q) q ≡ None
      → IsFound d w place s None
  nowhere q e f go = named_at q go e ∙ ap (λ o. need o WrongKind (λ slot_id. memory.bytes_in w slot_id (world.slot_at w slot_id) go)) f

  placed_at : (q : world.SlotId) (p : SlotId) (t : Content) (go : Go) → world.slot_id_of d.x d.leaf.current place ≡ Some q
      → bytes_slot_id d.system w (world.slot_at w q) q ≡ Some (slot_id_seen p) → world.slot_at w (slot_id_seen p) ≡ Some (seen (memory_of s (holder s p)) t)
      → bytes_at d w place go ≡ memory.bytes_in w (slot_id_seen p) (Some (seen (memory_of s (holder s p)) t)) go
  placed_at q p t go e f g = named_at q go e ∙ ap (λ o. need o WrongKind (λ slot_id. memory.bytes_in w slot_id (world.slot_at w slot_id) go)) f
      ∙ ap (λ o. memory.bytes_in w (slot_id_seen p) o go) g

  -- A step goes on with the bytes that stand there, if any do.
  pub at_slot : (q : world.SlotId) (p : SlotId) (o : Option Extent) → world.slot_id_of d.x d.leaf.current place ≡ Some q
      → bytes_slot_id d.system w (world.slot_at w q) q ≡ Some (slot_id_seen p) → world.slot_at w (slot_id_seen p) ≡ Some (slot_of s p)
      → IsSlotId s p → o ≡ extent_of (content_at s p) → IsFound d w place s o
  at_slot q p None e f g there h =
      λ go. placed_at q p (content_at s p) go e f g ∙ no_bytes w (slot_id_seen p) (memory_of s (holder s p)) (content_at s p) go (sym h)
  at_slot q p (Some x) e f g there h = record {
    slot_id = p;
    there = there;
    is = sym h;
    goes =
        λ go. placed_at q p (content_at s p) go e f g ∙ slot_bytes w (slot_id_seen p) (memory_of s (holder s p)) (content_at s p) x go (sym h);
  }

-- what lies there lies in this slot
is_extent : (s : Slots) (p : SlotId) (o : Option Extent) → IsSlotId s p → o ≡ extent_of (content_at s p) → IfSome o (λ x. IsExtent s x)
is_extent s p None there h = tt
is_extent s p (Some x) there h = record { slot_id = p; there = there; is = sym h }

-- what lies at a place lies in the slot that stands there
pub is_extent_at : (s : Slots) (o : Option SlotId) (r : Option Extent) → IfSome o (λ p. IsSlotId s p) → r ≡ extent_at s o → IfSome r (λ x. IsExtent s x)
is_extent_at s None r there h = subst (λ y. IfSome y (λ x. IsExtent s x)) (sym h) tt
is_extent_at s (Some p) r there h = is_extent s p r there h

-- BYTES OF A LEAF THAT DOES A STATEMENT

-- what is known of the step's slot
pub same_slot_id : (d : Doing) (a : Actor) (place : OperandSlot) (o : Option SlotId) → IsBy d a
    → place_seen o ≡ world.slot_id_of a.leaf (current_seen a.current) place → world.slot_id_of d.x d.leaf.current place ≡ place_seen o
same_slot_id d a place o h e = (λ k. world.slot_id_of (h.leaf k) (h.current k) place) ∙ sym e

module _ (d : Doing) (a : Actor) (f : Frame) (s : Slots) (bs : List ℕ) (place : OperandSlot) (h : IsBy d a) (buffers : AreBuffers d.system f s bs) where
  pub found_none : (o : Option SlotId) → o ≡ None → place_seen o ≡ world.slot_id_of a.leaf (current_seen a.current) place → IsFound d (world_seen f s) place s
      None
  found_none o n e = none_named d (world_seen f s) place s (same_slot_id d a place o h e ∙ ap place_seen n)

  abbrev Placed : SlotId → Option SlotId → Type 0
  Placed q r = (g : Frame) (system : System) → AreBuffers system g s bs
      → place_seen r ≡ bytes_slot_id system (world_seen g s) (world.slot_at (world_seen g s) (slot_id_seen q)) (slot_id_seen q)

  pub found_nowhere : (q : SlotId) (r : Option SlotId) → place_seen (Some q) ≡ world.slot_id_of a.leaf (current_seen a.current) place → r ≡ None → Placed q r
      → IsFound d (world_seen f s) place s None
  found_nowhere q r e n p =
      nowhere d (world_seen f s) place s (slot_id_seen q) (same_slot_id d a place (Some q) h e) (sym (p f d.system buffers) ∙ ap place_seen n)

  pub found_at : (q p : SlotId) (o : Option Extent) → place_seen (Some q) ≡ world.slot_id_of a.leaf (current_seen a.current) place → Placed q (Some p)
      → AreRead s → IsSlotId s p → o ≡ extent_of (content_at s p) → IsFound d (world_seen f s) place s o
  found_at q p o e g reads there is =
      at_slot d (world_seen f s) place s (slot_id_seen q) p o (same_slot_id d a place (Some q) h e) (sym (g f d.system buffers)) (reads f p there) there is

  -- what lies at the place of the slot's bytes is what the statement names
  pub found_behind : (q : SlotId) (o : Option SlotId) (r : Option Extent) → place_seen (Some q) ≡ world.slot_id_of a.leaf (current_seen a.current) place
      → Placed q o → AreRead s → IfSome o (λ p. IsSlotId s p) → r ≡ extent_at s o → IsFound d (world_seen f s) place s r
  found_behind q None r e g reads there is = subst (IsFound d (world_seen f s) place s) (sym is) (found_nowhere q None e refl g)
  found_behind q (Some p) r e g reads there is = found_at q p r e g reads there is
