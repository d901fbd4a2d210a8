-- The link and the empty slot that a statement names.
use Rattle.std.specs.Prelude.{◌≡◌, ℕ, Option, Some, None, Err}
use Rattle.gq_model.specs.declared.program.OperandSlot.{OperandSlot}
use Rattle.gq_model.specs.machine.Doing.{Doing, Stepped, fill, need}
use Rattle.gq_model.specs.declared.fault.Wrong.TheVariants.{WrongKind}
use Rattle.gq_model.specs.machine.World as world
use Rattle.gq_trade.specs.Numbers.{IsTaken}
use Rattle.gq_contents.specs.declared.content.Content.{Content}
use Rattle.gq_contents.specs.declared.content.Content.TheVariants.{Empty, Block, Slice, Space, Pool, Link, Waiting}
use Rattle.gq_trade.specs.Seen_sessions.{slot_id_seen}
use Rattle.gq_trade.specs.Trading.{client_of}
use Rattle.gq_trade.specs.declared.session.SlotId.{SlotId}
use Rattle.gq_slots.specs.Slots.{IsSlot, IsSlotId, Slots, content_at}
use Rattle.gq_statements.specs.Client_requests.{session_named}

-- the session to which a content leads
abbrev pub link_of : Content → Option ℕ
link_of Empty = None
link_of (Block p n) = None
link_of (Slice k n) = None
link_of (Space k n) = None
link_of (Pool p) = None
link_of (Link k) = Some k
link_of (Waiting k) = None

-- a link in the slot p leads to the session k, whose client is the leaf x
pub record IsLink (s : Slots) (x : ℕ) (p : SlotId) (k : ℕ) : Type 0 where
  pub there : IsSlotId s p
  pub slot : IsSlot p
  pub content : content_at s p ≡ Link k
  pub taken : IsTaken s.trades.trading.sessions k
  pub client : client_of s.trades.trading k ≡ x

-- the link that the operand of a step names stands in this slot, and leads to this session; or none is named
abbrev pub IsLinkedAt : Doing → OperandSlot → Option (SlotId × ℕ) → Type 0
IsLinkedAt d place None = session_named d place ≡ None
IsLinkedAt d place (Some f) = (world.slot_id_of d.x d.leaf.current place ≡ Some (slot_id_seen f.0)) ×
    (world.slot_at d.world (slot_id_seen f.0) ≡ Some (world.Link f.1))

-- nothing is in the slot p
pub record IsVacant (s : Slots) (p : SlotId) : Type 0 where
  pub there : IsSlotId s p
  pub slot : IsSlot p
  pub content : content_at s p ≡ Empty

-- the empty slot that the operand of a step names is this one; or none is named, and no step goes on that fills it
abbrev pub IsRoomAt : Doing → OperandSlot → Option SlotId → Type 0
IsRoomAt d place None = (slot : world.Slot) (go : world.SlotId → world.World → Stepped)
    → need (world.slot_id_of d.x d.leaf.current place) WrongKind (λ p. fill d.world p (world.slot_at d.world p) slot (go p)) ≡ Err WrongKind
IsRoomAt d place (Some p) = (world.slot_id_of d.x d.leaf.current place ≡ Some (slot_id_seen p)) × (world.slot_at d.world (slot_id_seen p) ≡ Some world.Empty)
