-- What is read and written at the extent of a content.
use Rattle.std.proofs.Common.{◌≡◌, ℕ, ◌+◌, ◌<◌, ◌≤◌, List, length, Option, Some, None, sym, ap, subst, ◌∙◌, arith}
use Rattle.std.specs.Prelude.{slice_range}
use Rattle.gq_tariff.specs.Prices.{up}
use Rattle.gq_model.specs.machine.Program.{little}
use Rattle.gq_store.specs.declared.extent.Extent.{Extent}
use Rattle.gq_store.specs.Store.{Store, word, Writes}
use Rattle.gq_store.specs.Chunk_bytes.{HasBytes}
use Rattle.gq_store.proofs.Stored_byte_lists.{listed_byte, listed_same, listed_word}
use Rattle.gq_store.proofs.Word_byte_spelling.{word_shifted}
use Rattle.gq_heap.specs.declared.heap.Heap.{Heap}
use Rattle.gq_heap.specs.declared.heap.Place.{Place}
use Rattle.gq_heap.specs.Heap.{chunk_of, offset_of}
use Rattle.gq_heap.proofs.Heap_call_invariants.{block_inside, written}
use Rattle.gq_heap.proofs.Heap_call_effects as blocks
use Rattle.gq_sliced.proofs.Slice_byte_writes as slices
use Rattle.gq_contents.specs.declared.content.Content.{Content}
use Rattle.gq_contents.specs.declared.content.Content.TheVariants.{Empty, Block, Slice, Space, Pool, Link, Waiting}
use Rattle.gq_contents.specs.Contents.{bytes_in, extent_of, put_in, seen}
use Rattle.gq_contents.specs.Contents_invariant.{IsAmong}
use Rattle.gq_contents.specs.Touches.{bytes_at, HasExtent, Touches}
use Rattle.gq_contents.proofs.Content_caller_facts.{block_in_use, block_room, slice_has_size, is_space}
use Rattle.gq_contents.proofs.Content_call_effects.{block_puts, block_puts_seen, slice_puts, slice_puts_seen, space_writes, space_writes_seen}

same_extent : (d e : Extent) → ◌≡◌ {A = Option Extent} (Some d) (Some e) → d ≡ e
same_extent d e h = cc

no_extent : (e : Extent) → ◌≡◌ {A = Option Extent} None (Some e) → ⊥
no_extent e h = cc

-- where the bytes of each kind lie
abbrev block_at : Place → ℕ → Extent
block_at p n = record { chunk = chunk_of p; start = offset_of p; length = n }

abbrev slice_at : ℕ → ℕ → Extent
slice_at k n = record { chunk = k; start = 32; length = n }

abbrev space_at : ℕ → ℕ → Extent
space_at k n = record { chunk = k; start = 0; length = up n }

-- ---- the store has the extent of a content that is kept
block_there : (heap : Heap) (st : Store) (p : Place) (n : ℕ) → IsAmong heap st (Block p n) → HasExtent st (block_at p n)
block_there heap st p n a =
    let i = block_inside heap st p (block_in_use heap st p n a) in
    let room = block_room heap st p n a in
    record { inside = omega (arith, i.0, room); few = omega (arith, i.0, i.1, room) }

slice_there : (heap : Heap) (st : Store) (k n : ℕ) → IsAmong heap st (Slice k n) → HasExtent st (slice_at k n)
slice_there heap st k n a = let h = slice_has_size heap st k n a in record { inside = omega (arith, h.pages); few = omega (arith, h.small) }

space_there : (heap : Heap) (st : Store) (k n : ℕ) → IsAmong heap st (Space k n) → HasExtent st (space_at k n)
space_there heap st k n a = let h = is_space heap st k n a in record { inside = omega (arith, h.pages); few = omega (arith, h.small) }

pub extent_there : (heap : Heap) (st : Store) (t : Content) (e : Extent) → IsAmong heap st t → extent_of t ≡ Some e → HasExtent st e
extent_there heap st Empty e a is = absurd (no_extent e is)
extent_there heap st (Block p n) e a is = subst (HasExtent st) (same_extent (block_at p n) e is) (block_there heap st p n a)
extent_there heap st (Slice k n) e a is = subst (HasExtent st) (same_extent (slice_at k n) e is) (slice_there heap st k n a)
extent_there heap st (Space k n) e a is = subst (HasExtent st) (same_extent (space_at k n) e is) (space_there heap st k n a)
extent_there heap st (Pool p) e a is = absurd (no_extent e is)
extent_there heap st (Link k) e a is = absurd (no_extent e is)
extent_there heap st (Waiting k) e a is = absurd (no_extent e is)

-- ---- the bytes of a content are those of its extent
pub extent_bytes : (st : Store) (t : Content) (e : Extent) → extent_of t ≡ Some e → bytes_in (seen st t) ≡ bytes_at st e
extent_bytes st Empty e is = absurd (no_extent e is)
extent_bytes st (Block p n) e is = ap (bytes_at st) (same_extent (block_at p n) e is)
extent_bytes st (Slice k n) e is = ap (bytes_at st) (same_extent (slice_at k n) e is)
extent_bytes st (Space k n) e is =
    listed_same (up n) (st.byte k) (λ i. st.byte k (0 + i)) 0 (λ i l. ap (st.byte k) (omega arith)) ∙ ap (bytes_at st) (same_extent (space_at k n) e is)
extent_bytes st (Pool p) e is = absurd (no_extent e is)
extent_bytes st (Link k) e is = absurd (no_extent e is)
extent_bytes st (Waiting k) e is = absurd (no_extent e is)

-- ---- what is read
module _ (st : Store) (t : Content) (e : Extent) (i : ℕ) (is : extent_of t ≡ Some e) where
  pub byte_read : i + 1 ≤ e.length → little (slice_range (bytes_in (seen st t)) i (i + 1)) ≡ st.byte e.chunk (e.start + i)
  byte_read l =
      ap (λ bs. little (slice_range bs i (i + 1))) (extent_bytes st t e is) ∙ listed_byte e.length (λ j. st.byte e.chunk (e.start + j)) i l

  pub word_read : i + 4 ≤ e.length → little (slice_range (bytes_in (seen st t)) i (i + 4)) ≡ word (st.byte e.chunk) (e.start + i)
  word_read l =
      ap (λ bs. little (slice_range bs i (i + 4))) (extent_bytes st t e is)
      ∙ listed_word e.length (λ j. st.byte e.chunk (e.start + j)) i l ∙ word_shifted (st.byte e.chunk) e.start i

pub byte_inside : (st : Store) (e : Extent) (i : ℕ) → HasExtent st e → i + 1 ≤ e.length → e.start + i < st.size e.chunk
byte_inside st e i h l = omega (arith, h.inside, l)

pub word_inside : (st : Store) (e : Extent) (i : ℕ) → HasExtent st e → i + 4 ≤ e.length → e.start + i + 4 ≤ st.size e.chunk
word_inside st e i h l = omega (arith, h.inside, l)

-- ---- the law: some bytes that are written within the extent of a content change what it reads there, and nothing else
module _ (heap : Heap) (old new : Store) (i : ℕ) (bytes : List ℕ) where
  -- these bytes stand within an extent, and no other byte changed
  record PutAt (e : Extent) : Type 0 where
    inside : i + length bytes ≤ e.length
    here : HasBytes (new.byte e.chunk) (e.start + i) bytes
    alone : Writes old new e.chunk (e.start + i) (length bytes)

  block_touched : (p : Place) (n : ℕ) → IsAmong heap old (Block p n) → PutAt (block_at p n) → Touches heap old new (Block p n) (put_in i bytes)
  block_touched p n a w =
      let room : i + length bytes ≤ _ = omega (arith, w.inside, block_room heap old p n a) in
      let puts = blocks.puts heap old new p i bytes room (written heap old new p i bytes room w.here w.alone) in
      record {
        changes = block_puts heap old new p n i bytes puts;
        seen = block_puts_seen heap old new p n i bytes w.inside puts;
        left = w.alone.left;
        caps = w.alone.caps;
      }

  slice_touched : (k n : ℕ) → PutAt (slice_at k n) → Touches heap old new (Slice k n) (put_in i bytes)
  slice_touched k n w =
      let puts = slices.puts old new k i bytes w.here w.alone in
      record {
        changes = slice_puts heap old new k n i bytes puts;
        seen = slice_puts_seen old new k n i bytes w.inside puts;
        left = w.alone.left;
        caps = w.alone.caps;
      }

  space_touched : (k n : ℕ) → PutAt (space_at k n) → Touches heap old new (Space k n) (put_in i bytes)
  space_touched k n w =
      let first : 0 + i ≡ i = omega arith in
      let here = subst (λ o. HasBytes (new.byte k) o bytes) first w.here in
      let alone = subst (λ o. Writes old new k o (length bytes)) first w.alone in
      record {
        changes = space_writes heap old new k n i (length bytes) alone;
        seen = space_writes_seen old new k n i bytes w.inside here alone;
        left = w.alone.left;
        caps = w.alone.caps;
      }

  touched_at : (t : Content) (e : Extent) → IsAmong heap old t → extent_of t ≡ Some e → PutAt e → Touches heap old new t (put_in i bytes)
  touched_at Empty e a is w = absurd (no_extent e is)
  touched_at (Block p n) e a is w = block_touched p n a (subst PutAt (sym (same_extent (block_at p n) e is)) w)
  touched_at (Slice k n) e a is w = slice_touched k n (subst PutAt (sym (same_extent (slice_at k n) e is)) w)
  touched_at (Space k n) e a is w = space_touched k n (subst PutAt (sym (same_extent (space_at k n) e is)) w)
  touched_at (Pool p) e a is w = absurd (no_extent e is)
  touched_at (Link k) e a is w = absurd (no_extent e is)
  touched_at (Waiting k) e a is w = absurd (no_extent e is)

  pub touched : (t : Content) (e : Extent) → IsAmong heap old t → extent_of t ≡ Some e → i + length bytes ≤ e.length
      → HasBytes (new.byte e.chunk) (e.start + i) bytes → Writes old new e.chunk (e.start + i) (length bytes) → Touches heap old new t (put_in i bytes)
  touched t e a is inside here alone = touched_at t e a is (record { inside = inside; here = here; alone = alone })
