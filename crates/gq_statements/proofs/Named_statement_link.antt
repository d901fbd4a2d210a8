-- Which link a statement names.
use Rattle.std.proofs.Common.{◌≡◌, ℕ, Option, Some, None, IsTrue, refl, sym, ap, ◌∙◌}
use Rattle.gq_model.specs.declared.program.OperandSlot.{OperandSlot}
use Rattle.gq_model.specs.declared.program.OperandSlot.TheVariants.{Own, Shared, Object}
use Rattle.gq_model.specs.machine.World as world
use Rattle.gq_model.specs.machine.Doing.{Doing}
use Rattle.gq_model.specs.texts.Operands.{is_slot, is_slot_or_object}
use Rattle.gq_store.specs.Store.{Store}
use Rattle.gq_contents.specs.declared.content.Content.{Content}
use Rattle.gq_contents.specs.declared.content.Content.TheVariants.{Empty, Block, Slice, Space, Pool, Link, Waiting}
use Rattle.gq_contents.specs.Contents.{seen}
use Rattle.gq_trade.specs.declared.session.SlotId.{SlotId}
use Rattle.gq_trade.specs.declared.session.SlotId.TheVariants.{InLeaf, InSession, InObject}
use Rattle.gq_trade.specs.Seen_sessions.{slot_id_seen}
use Rattle.gq_slots.specs.Slots.{Frame, IsSlot, Slots, holder, memory_of, world_seen}
use Rattle.gq_slots.specs.Slot_addresses.{place_seen}
use Rattle.gq_statements.specs.declared.actor.Actor.{Actor}
use Rattle.gq_statements.specs.Slot_statements.{IsBy, current_seen}
use Rattle.gq_statements.proofs.Named_statement_bytes.{same_slot_id}
use Rattle.gq_statements.specs.Client_requests.{leads_from, leads_to, session_named}
use Rattle.gq_statements.specs.internal.Named_slots.{IsLinkedAt, link_of}

not_link : (st : Store) (t : Content) → link_of t ≡ None → leads_to (Some (seen st t)) ≡ None
not_link st Empty e = refl
not_link st (Block p n) e = refl
not_link st (Slice k n) e = refl
not_link st (Space k n) e = refl
not_link st (Pool p) e = refl
not_link st (Link k) e = cc
not_link st (Waiting k) e = refl

same_number : (j k : ℕ) → Some j ≡ Some k → j ≡ k
same_number j k e = cc

pub link_content : (t : Content) (k : ℕ) → Some k ≡ link_of t → t ≡ Link k
link_content Empty k e = cc
link_content (Block p n) k e = cc
link_content (Slice j n) k e = cc
link_content (Space j n) k e = cc
link_content (Pool p) k e = cc
link_content (Link j) k e = ap Link (same_number j k (sym e))
link_content (Waiting j) k e = cc

-- an operand that is a slot names no object
seen_slot : (p : SlotId) (o : Option world.SlotId) → place_seen (Some p) ≡ o → ((k : ℕ) → o ≡ Some (world.In_object k) → ⊥) → IsSlot p
seen_slot (InLeaf x i) o e n = tt
seen_slot (InSession k i) o e n = tt
seen_slot (InObject k) o e n = absurd (n k (sym e))

no_object : (place : OperandSlot) (x : ℕ) (h : Option world.Current) (k : ℕ) → IsTrue (is_slot place) → world.slot_id_of x h place ≡ Some (world.In_object k) →
    ⊥
no_object (Own i) x h k t e = cc
no_object (Shared i) x None k t e = cc
no_object (Shared i) x (Some h) k t e = cc
no_object Object x h k t e = cc

pub names_slot : (place : OperandSlot) (x : ℕ) (h : Option world.Current) (p : SlotId) → IsTrue (is_slot place) → place_seen (Some p) ≡ world.slot_id_of x h
    place
    → IsSlot p
names_slot place x h p t e = seen_slot p (world.slot_id_of x h place) e (λ k f. no_object place x h k t f)

pub slot_or_object : (place : OperandSlot) → IsTrue (is_slot place) → IsTrue (is_slot_or_object place)
slot_or_object (Own i) t = t
slot_or_object (Shared i) t = t
slot_or_object Object t = cc

module _ (d : Doing) (a : Actor) (place : OperandSlot) (f : Frame) (s : Slots) (h : IsBy d a) (we : d.world ≡ world_seen f s) where
  pub none_named : (o : Option SlotId) → o ≡ None → place_seen o ≡ world.slot_id_of a.leaf (current_seen a.current) place → session_named d place ≡ None
  none_named o n e = ap (leads_from d.world) (same_slot_id d a place o h e ∙ ap place_seen n)

  module _ (p : SlotId) (t : Content) (e : place_seen (Some p) ≡ world.slot_id_of a.leaf (current_seen a.current) place)
      (r : world.slot_at (world_seen f s) (slot_id_seen p) ≡ Some (seen (memory_of s (holder s p)) t)) where
    slot_is : world.slot_at d.world (slot_id_seen p) ≡ Some (seen (memory_of s (holder s p)) t)
    slot_is = ap (λ w. world.slot_at w (slot_id_seen p)) we ∙ r

    pub other_named : link_of t ≡ None → session_named d place ≡ None
    other_named n =
        ap (leads_from d.world) (same_slot_id d a place (Some p) h e) ∙ ap leads_to slot_is ∙ not_link (memory_of s (holder s p)) t n

    pub link_named : (k : ℕ) → Some k ≡ link_of t → IsLinkedAt d place (Some (p, k))
    link_named k is =
        (same_slot_id d a place (Some p) h e, slot_is ∙ ap (λ y. Some (seen (memory_of s (holder s p)) y)) (link_content t k is))
