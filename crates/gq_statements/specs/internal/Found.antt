-- Which bytes a statement names.
use Rattle.std.specs.Prelude.{◌≡◌, ℕ, List, [], Option, Some, None, Err}
use Rattle.gq_model.specs.declared.program.OperandSlot.{OperandSlot}
use Rattle.gq_model.specs.machine.World as world
use Rattle.gq_model.specs.machine.Doing.{Doing, Stepped}
use Rattle.gq_model.specs.declared.fault.Wrong.TheVariants.{WrongKind}
use Rattle.gq_model.specs.machine.Memory.{bytes_at, pool_at}
use Rattle.gq_store.specs.declared.extent.Extent.{Extent}
use Rattle.gq_contents.specs.Contents.{bytes_in, entry_count, entry_size, extent_of}
use Rattle.gq_trade.specs.declared.session.SlotId.{SlotId}
use Rattle.gq_trade.specs.Seen_sessions.{slot_id_seen}
use Rattle.gq_slots.specs.Slots.{Frame, IsSlot, IsSlotId, Slots, content_at, holder, slot_of, world_seen}

-- a slot with other bytes
abbrev pub with_bytes : List ℕ → world.Slot → world.Slot
with_bytes new world.Empty = world.Empty
with_bytes new (world.Bytes f n bytes) = world.Bytes f n new
with_bytes new (world.Pool n entries) = world.Pool n entries
with_bytes new (world.Link k) = world.Link k
with_bytes new (world.Waiting k) = world.Waiting k

-- A step goes on with the bytes of a slot in the world w, which lie there.
pub record IsFoundAt (d : Doing) (w : world.World) (place : OperandSlot) (s : Slots) (e : Extent) : Type 0 where
  pub slot_id : SlotId
  pub there : IsSlotId s slot_id
  pub is : extent_of (content_at s slot_id) ≡ Some e
  pub goes : (go : List ℕ → (List ℕ → world.World) → Stepped) → bytes_at d w place go
      ≡ go (bytes_in (slot_of s slot_id)) (λ new. world.with_slot w (slot_id_seen slot_id) (with_bytes new (slot_of s slot_id)))

-- A step goes on with the bytes that lie there in the world w, or none are named.
abbrev pub IsFound : Doing → world.World → OperandSlot → Slots → Option Extent → Type 0
IsFound d w place s None = (go : List ℕ → (List ℕ → world.World) → Stepped) → bytes_at d w place go ≡ Err WrongKind
IsFound d w place s (Some e) = IsFoundAt d w place s e

-- the entries of a pool
abbrev pub entries_in : world.Slot → List (Option (List ℕ))
entries_in world.Empty = []
entries_in (world.Bytes f n bytes) = []
entries_in (world.Pool n entries) = entries
entries_in (world.Link k) = []
entries_in (world.Waiting k) = []

-- a pool of m entries of n bytes in a slot that is there, which the leaf x pays for
pub record IsOwnPool (s : Slots) (x : ℕ) (p : SlotId) (n m : ℕ) : Type 0 where
  pub there : IsSlotId s p
  pub kind : IsSlot p
  pub holder_is : holder s p ≡ x
  pub size : n ≡ entry_size (content_at s p)
  pub count : m ≡ entry_count (content_at s p)
  pub reads : (f : Frame) → world.slot_at (world_seen f s) (slot_id_seen p) ≡ Some (slot_of s p)
  pub slot : slot_of s p ≡ world.Pool n (entries_in (slot_of s p))

-- A step goes on with the pool of this slot in the world w, whose entries have so many bytes, or none is named.
abbrev pub IsPool : Doing → world.World → OperandSlot → Slots → Option (SlotId × ℕ × ℕ) → Type 0
IsPool d w place s None = (go : ℕ → List (Option (List ℕ)) → (List (Option (List ℕ)) → world.World) → Stepped) → pool_at d w place go ≡ Err WrongKind
IsPool d w place s (Some p) = (go : ℕ → List (Option (List ℕ)) → (List (Option (List ℕ)) → world.World) → Stepped) → pool_at d w place go
    ≡ go p.1 (entries_in (slot_of s p.0)) (λ new. world.with_slot w (slot_id_seen p.0) (world.Pool p.1 new))
