-- Bytes that a statement reads and writes.
use Rattle.std.proofs.Common.{◌≡◌, ℕ, ◌+◌, Bool, true, false, List, ◌∷◌, ◌++◌, length, take, drop, Some, None, refl, sym, ap, ◌∙◌}
use Rattle.std.specs.Prelude.{nat_le, slice_range, Ok, Err}
use Rattle.gq_model.specs.declared.program.OperandSlot.{OperandSlot}
use Rattle.gq_model.specs.declared.program.Width.{Width}
use Rattle.gq_model.specs.declared.program.Width.TheVariants.{Byte, Word}
use Rattle.gq_model.specs.machine.Program.{bytes_of, little, spelled}
use Rattle.gq_model.specs.machine.World as world
use Rattle.gq_model.specs.machine.Doing.{Doing, Quiet, Stepped, on_stack, pop, standing, when, with_operands}
use Rattle.gq_model.specs.declared.fault.Wrong.TheVariants.{UnmappedByte, WrongKind}
use Rattle.gq_model.specs.machine.Memory.{bytes_at, load, store}
use Rattle.gq_tariff.specs.Prices.{up}
use Rattle.gq_store.specs.declared.extent.Extent.{Extent}
use Rattle.gq_heap.specs.Heap.{chunk_of, offset_of}
use Rattle.gq_contents.specs.declared.content.Content.{Content}
use Rattle.gq_contents.specs.declared.content.Content.TheVariants.{Empty, Block, Slice, Space, Pool, Link, Waiting}
use Rattle.gq_contents.specs.Contents.{bytes_in, extent_of, put_in, size_of}
use Rattle.gq_trade.specs.declared.session.SlotId.{SlotId}
use Rattle.gq_trade.specs.Seen_sessions.{slot_id_seen}
use Rattle.gq_slots.specs.Slots.{Frame, IsSlotId, Slots, holder, memory_of, slot_of, content_at, world_seen}
use Rattle.gq_slots.specs.Calls.{PutsSlot}
use Rattle.gq_slots.proofs.Slot_byte_counts.{length_seen}
use Rattle.gq_statements.specs.internal.Found.{IsFound, IsFoundAt, with_bytes}

-- a slot with other bytes from i on, as many as a width has
put_width : (width : Width) (i v : ℕ) (slot : world.Slot)
    → with_bytes (take i (bytes_in slot) ++ spelled (bytes_of width) v ++ drop (i + bytes_of width) (bytes_in slot)) slot
    ≡ put_in i (spelled (bytes_of width) v) slot
put_width width i v world.Empty = refl
put_width Byte i v (world.Bytes f n bytes) = refl
put_width Word i v (world.Bytes f n bytes) = refl
put_width width i v (world.Pool n entries) = refl
put_width width i v (world.Link k) = refl
put_width width i v (world.Waiting k) = refl

-- an extent is as long as what it is of
extent_size : (t : Content) (x : Extent) → extent_of t ≡ Some x → x.length ≡ size_of t
extent_size Empty x e = cc
extent_size (Block p n) x e = let same : record { chunk = chunk_of p; start = offset_of p; length = n } ≡ x = cc in ap (λ (y : Extent). y.length) (sym same)
extent_size (Slice k n) x e = let same : record { chunk = k; start = 32; length = n } ≡ x = cc in ap (λ (y : Extent). y.length) (sym same)
extent_size (Space k n) x e = let same : record { chunk = k; start = 0; length = up n } ≡ x = cc in ap (λ (y : Extent). y.length) (sym same)
extent_size (Pool p) x e = cc
extent_size (Link k) x e = cc
extent_size (Waiting k) x e = cc

module _ (d : Doing) (width : Width) (place : OperandSlot) (s : Slots) where
  abbrev slot_bytes : SlotId → List ℕ
  slot_bytes p = bytes_in (slot_of s p)

  long_is : (w : world.World) (x : Extent) (at : IsFoundAt d w place s x) (i : ℕ) (b : Bool) → nat_le (i + bytes_of width) x.length ≡ b
      → nat_le (i + bytes_of width) (length (slot_bytes at.slot_id)) ≡ b
  long_is w x at i b e =
      let p = at.slot_id in
      ap (nat_le (i + bytes_of width)) (length_seen (memory_of s (holder s p)) (content_at s p) ∙ sym (extent_size (content_at s p) x at.is)) ∙ e

  -- READ

  abbrev reading : ℕ → List ℕ → List ℕ → (List ℕ → world.World) → Stepped
  reading i rest bytes put = when (nat_le (i + bytes_of width) (length bytes)) UnmappedByte
      (on_stack d (little (slice_range bytes i (i + bytes_of width)) ∷ rest))

  module _ (w : world.World) (i : ℕ) (rest : List ℕ) (we : d.world ≡ w) (e : d.leaf.operands ≡ i ∷ rest) where
    load_is : load d width place ≡ bytes_at d w place (reading i rest)
    load_is k = pop (e k) (λ j more. bytes_at d (we k) place (reading j more))

    pub load_none : IsFound d w place s None → load d width place ≡ Err WrongKind
    load_none h = load_is ∙ h (reading i rest)

    module _ (x : Extent) (at : IsFoundAt d w place s x) where
      abbrev read_bytes : List ℕ
      read_bytes = slice_range (slot_bytes at.slot_id) i (i + bytes_of width)

      pub load_short : nat_le (i + bytes_of width) x.length ≡ false → load d width place ≡ Err UnmappedByte
      load_short short =
          load_is ∙ at.goes (reading i rest) ∙ ap (λ b. when b UnmappedByte (on_stack d (little read_bytes ∷ rest))) (long_is w x at i false short)

      pub load_some : (m : ℕ) → nat_le (i + bytes_of width) x.length ≡ true
          → ((p : SlotId) → IsSlotId s p → extent_of (content_at s p) ≡ Some x → m ≡ little (slice_range (slot_bytes p) i (i + bytes_of width)))
          → load d width place ≡ on_stack d (m ∷ rest)
      load_some m long reads =
          load_is ∙ at.goes (reading i rest) ∙ ap (λ b. when b UnmappedByte (on_stack d (little read_bytes ∷ rest))) (long_is w x at i true long)
          ∙ ap (λ y. on_stack d (y ∷ rest)) (sym (reads at.slot_id at.there at.is))

  -- WRITTEN

  abbrev writing : ℕ → ℕ → List ℕ → (List ℕ → world.World) → Stepped
  writing v i bytes put = when (nat_le (i + bytes_of width) (length bytes)) UnmappedByte
      (Ok (put (take i bytes ++ spelled (bytes_of width) v ++ drop (i + bytes_of width) bytes), Quiet))

  module _ (w : world.World) (v i : ℕ) (rest : List ℕ) (we : standing d (with_operands d rest) ≡ w) (e : d.leaf.operands ≡ v ∷ i ∷ rest) where
    store_is : store d width place ≡ bytes_at d w place (writing v i)
    store_is =
        (λ k. pop (e k) (λ u below. pop below (λ j more. bytes_at d (standing d (with_operands d more)) place (writing u j))))
        ∙ ap (λ y. bytes_at d y place (writing v i)) we

    pub store_none : IsFound d w place s None → store d width place ≡ Err WrongKind
    store_none h = store_is ∙ h (writing v i)

    module _ (x : Extent) (at : IsFoundAt d w place s x) where
      abbrev written : world.World
      written = world.with_slot w (slot_id_seen at.slot_id) (with_bytes
          (take i (slot_bytes at.slot_id) ++ spelled (bytes_of width) v ++ drop (i + bytes_of width) (slot_bytes at.slot_id)) (slot_of s at.slot_id))

      pub store_short : nat_le (i + bytes_of width) x.length ≡ false → store d width place ≡ Err UnmappedByte
      store_short short = store_is ∙ at.goes (writing v i) ∙ ap (λ b. when b UnmappedByte (Ok (written, Quiet))) (long_is w x at i false short)

      pub store_some : (f : Frame) (t : Slots) → w ≡ world_seen f s → nat_le (i + bytes_of width) x.length ≡ true
          → ((p : SlotId) → IsSlotId s p → extent_of (content_at s p) ≡ Some x → PutsSlot s t p (put_in i (spelled (bytes_of width) v) (slot_of s p)))
          → store d width place ≡ Ok (world_seen f t, Quiet)
      store_some f t is long writes =
          let p = at.slot_id in
          store_is ∙ at.goes (writing v i) ∙ ap (λ b. when b UnmappedByte (Ok (written, Quiet))) (long_is w x at i true long)
          ∙ ap (λ slot. Ok (world.with_slot w (slot_id_seen p) slot, Quiet)) (put_width width i v (slot_of s p))
          ∙ ap (λ y. Ok (world.with_slot y (slot_id_seen p) (put_in i (spelled (bytes_of width) v) (slot_of s p)), Quiet)) is
          ∙ ap (λ y. Ok (y, Quiet)) (sym ((writes p at.there at.is).seen_so f))
