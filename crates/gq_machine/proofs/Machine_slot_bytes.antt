-- What is read of the bytes and entries of a slot.
use Rattle.std.proofs.Common.{◌≡◌, ◌<◌, ◌≤◌, ◌+◌, ◌-◌, drop, take, ℕ, zero, suc, List, [], ◌∷◌, Some, None, length, refl}
use Rattle.std.proofs.Common.{sym, ap, subst, ◌∙◌, arith}
use Rattle.std.specs.Prelude.{slice_get, slice_range}
use Rattle.gq_model.specs.machine.Program.{little}
use Rattle.gq_model.specs.machine.World as world
use Rattle.gq_model.proofs.Small_facts.{none_some, some_same}
use Rattle.gq_store.specs.declared.Extent.{Extent}
use Rattle.gq_store.specs.Store.{Store}
use Rattle.gq_contents.specs.declared.content.Content.{Content}
use Rattle.gq_contents.specs.declared.content.Content.TheVariants.{Empty, Block, Slice, Space, Pool, Link, Waiting}
use Rattle.gq_contents.specs.Contents as contents
use Rattle.gq_contents.specs.Contents.{extent_of}
use Rattle.gq_trade.specs.Seen_sessions.{slot_id_seen}
use Rattle.gq_trade.specs.declared.session.SlotId.{SlotId}
use Rattle.gq_slots.specs.Slots.{Frame, IsSlotId, Slots, content_at, holder, memory_of, slot_of}
use Rattle.gq_slots.proofs.Slot_byte_counts.{length_seen}
use Rattle.gq_statements.specs.Systems.{AreLawful}
use Rattle.gq_statements.specs.internal.Found.{entries_in}
use Rattle.gq_statements.proofs.Named_pool_entries.{many}
use Rattle.gq_machine.specs.Machines.{Machine}
use Rattle.gq_machine.specs.Machine_world.{frame_of}
use Rattle.gq_machine.specs.Readers.{HasByte, HasEntry, HasEntryByte, HasSlotId, byte_at, byte_count, entry_at, entry_count, entry_size}
use Rattle.gq_machine.specs.declared.machine.Machine.TheInside.{Inside}
use Rattle.gq_machine.specs.internal.Machine_invariant.{Holds}
use Rattle.gq_machine.specs.internal.Starts.{machine_seen}
use Rattle.gq_machine.proofs.Machine_session_reads.{slot_id_there}

-- SLOTS

one_of : (bytes : List ℕ) (i : ℕ) → i < length bytes → slice_get bytes i ≡ Some (little (take 1 (drop i bytes)))
one_of [] i l = absurd (omega (arith, l))
one_of (b ∷ bytes) zero l = ap Some (omega arith)
one_of (b ∷ bytes) (suc i) l = one_of bytes i (omega (arith, l))

one_byte : (bytes : List ℕ) (i : ℕ) → i < length bytes → slice_get bytes i ≡ Some (little (slice_range bytes i (i + 1)))
one_byte bytes i l = let one : 1 ≡ i + 1 - i = omega arith in one_of bytes i l ∙ ap (λ n. Some (little (take n (drop i bytes)))) one

byte_is : (s : world.Slot) (i : ℕ) → i < byte_count (Some s) → byte_at i (Some s) ≡ Some (little (slice_range (contents.bytes_in s) i (i + 1)))
byte_is world.Empty i l = absurd (omega (arith, l))
byte_is (world.Bytes form n bytes) i l = one_byte bytes i l
byte_is (world.Pool n entries) i l = absurd (omega (arith, l))
byte_is (world.Link k) i l = absurd (omega (arith, l))
byte_is (world.Waiting k) i l = absurd (omega (arith, l))

bytes_are : (s : world.Slot) → byte_count (Some s) ≡ length (contents.bytes_in s)
bytes_are world.Empty = refl
bytes_are (world.Bytes form n bytes) = refl
bytes_are (world.Pool n entries) = refl
bytes_are (world.Link k) = refl
bytes_are (world.Waiting k) = refl

-- an extent has as many bytes as the content has, and what has none has no bytes
extent_size : (c : Content) (e : Extent) → extent_of c ≡ Some e → e.length ≡ contents.size_of c
extent_size Empty e is = absurd (none_some is)
extent_size (Block q k) e is = ap (λ (x : Extent). x.length) (sym (some_same is))
extent_size (Slice q k) e is = ap (λ (x : Extent). x.length) (sym (some_same is))
extent_size (Space q k) e is = ap (λ (x : Extent). x.length) (sym (some_same is))
extent_size (Pool q) e is = absurd (none_some is)
extent_size (Link k) e is = absurd (none_some is)
extent_size (Waiting k) e is = absurd (none_some is)

no_extent_size : (c : Content) → extent_of c ≡ None → contents.size_of c ≡ 0
no_extent_size Empty is = refl
no_extent_size (Block q k) is = absurd (none_some (sym is))
no_extent_size (Slice q k) is = absurd (none_some (sym is))
no_extent_size (Space q k) is = absurd (none_some (sym is))
no_extent_size (Pool q) is = refl
no_extent_size (Link k) is = refl
no_extent_size (Waiting k) is = refl

count_is : (s : world.Slot) → entry_count (Some s) ≡ length (entries_in s)
count_is world.Empty = refl
count_is (world.Bytes form n bytes) = refl
count_is (world.Pool n entries) = refl
count_is (world.Link k) = refl
count_is (world.Waiting k) = refl

size_is : (st : Store) (t : Content) → entry_size (Some (contents.seen st t)) ≡ contents.entry_size t
size_is st Empty = refl
size_is st (Block q k) = refl
size_is st (Slice q k) = refl
size_is st (Space q k) = refl
size_is st (Pool q) = refl
size_is st (Link k) = refl
size_is st (Waiting k) = refl

entry_is : (s : world.Slot) (i : ℕ) → entry_at i (Some s) ≡ contents.entry_in i s
entry_is world.Empty i = refl
entry_is (world.Bytes form n bytes) i = refl
entry_is (world.Pool n entries) i = refl
entry_is (world.Link k) i = refl
entry_is (world.Waiting k) i = refl

module _ (i : Inside) (w : Machine) (e : machine_seen i ≡ w) (h : Holds i.fixed i.state) (l : AreLawful i.state.slots) (p : SlotId) (there : HasSlotId w p)
  where
    abbrev t : Slots
    t = i.state.slots

    abbrev f : Frame
    f = frame_of i.fixed.table i.state.leaves.items

    stands : IsSlotId t p
    stands = slot_id_there i w e h l p there

    reads : world.slot_at w.world (slot_id_seen p) ≡ Some (slot_of t p)
    reads = ap (λ (m : Machine). world.slot_at m.world (slot_id_seen p)) (sym e) ∙ l.read f p stands

    size_seen : byte_count (world.slot_at w.world (slot_id_seen p)) ≡ contents.size_of (content_at t p)
    size_seen = ap byte_count reads ∙ bytes_are (slot_of t p) ∙ length_seen (memory_of t (holder t p)) (content_at t p)

    -- how many bytes there are
    pub size_read : (size : ℕ) (c : Content) → c ≡ content_at t p → size ≡ contents.size_of c → size ≡ byte_count (world.slot_at w.world (slot_id_seen p))
    size_read size c content is = is ∙ ap contents.size_of content ∙ sym size_seen

    module _ (k : ℕ) (has : HasByte w p k) where
      -- a slot with a byte has an extent that has it
      pub no_extent : extent_of (content_at t p) ≡ None → ⊥
      no_extent none = let size = size_seen in let zero_size = no_extent_size (content_at t p) none in omega (arith, has, size, zero_size)

      module _ (x : Extent) (is : extent_of (content_at t p) ≡ Some x) where
        pub byte_inside : k + 1 ≤ x.length
        byte_inside = let size = size_seen in let long = extent_size (content_at t p) x is in omega (arith, has, size, long)

        pub byte_read : (r : ℕ)
            → ((q : SlotId) → IsSlotId t q → extent_of (content_at t q) ≡ Some x → r ≡ little (slice_range (contents.bytes_in (slot_of t q)) k (k + 1)))
            → byte_at k (world.slot_at w.world (slot_id_seen p)) ≡ Some r
        byte_read r are =
            ap (byte_at k) reads ∙ byte_is (slot_of t p) k (subst (λ o. k < byte_count o) reads has) ∙ ap Some (sym (are p stands is))

    pub entry_inside : (k : ℕ) → HasEntry w p k → k < contents.entry_count (content_at t p)
    entry_inside k has =
        let b = subst (λ o. k < entry_count o) reads has in
        let count = count_is (slot_of t p) in
        let all = many (memory_of t (holder t p)) (content_at t p) in
        omega (arith, b, count, all)

    pub entry_read : (k : ℕ) → entry_at k (world.slot_at w.world (slot_id_seen p)) ≡ contents.entry_in k (slot_of t p)
    entry_read k = ap (entry_at k) reads ∙ entry_is (slot_of t p) k

    pub entry_byte_inside : (k j : ℕ) → HasEntryByte w p k j → (k < contents.entry_count (content_at t p)) × (j < contents.entry_size (content_at t p))
    entry_byte_inside k j has =
        let b = subst (λ o. j < entry_size o) reads has.1 in
        let size = size_is (memory_of t (holder t p)) (content_at t p) in
        (entry_inside k has.0, omega (arith, b, size))
