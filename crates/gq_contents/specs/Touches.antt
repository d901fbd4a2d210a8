-- What is touched: bytes of a content that change, and all that stays.
use Rattle.std.specs.Prelude.{◌≡◌, ℕ, ◌+◌, ◌≤◌, List, Some}
use Rattle.gq_model.specs.machine.World.{Slot}
use Rattle.gq_store.specs.declared.extent.Extent.{Extent}
use Rattle.gq_store.specs.Store.{Store}
use Rattle.gq_store.specs.Chunk_bytes.{listed}
use Rattle.gq_heap.specs.declared.heap.Heap.{Heap}
use Rattle.gq_contents.specs.declared.content.Content.{Content}
use Rattle.gq_contents.specs.Contents.{extent_of, seen}
use Rattle.gq_contents.specs.Contents_invariant.{Changes, IsAmong}

-- the bytes of an extent, as a list
abbrev pub bytes_at : Store → Extent → List ℕ
bytes_at st e = listed e.length (λ i. st.byte e.chunk (e.start + i))

-- The store has all bytes of an extent. A chunk has few pages.
pub record HasExtent (st : Store) (e : Extent) : Type 0 where
  pub inside : e.start + e.length ≤ st.size e.chunk
  pub few : e.start + e.length ≤ 67112960

-- a content that is kept has this extent
pub record IsOfExtent (st : Store) (e : Extent) : Type 0 where
  pub heap : Heap
  pub content : Content
  pub among : IsAmong heap st content
  pub is : extent_of content ≡ Some e

-- The content reads as f makes of what it read. It is kept beside all others, which read as before, in the same heap, and as much can still be paid.
pub record Touches (heap : Heap) (old new : Store) (t : Content) (f : Slot → Slot) : Type 0 where
  pub changes : Changes heap heap old new t t
  pub seen : seen new t ≡ f (seen old t)
  pub left : new.left ≡ old.left
  pub caps : new.caps ≡ old.caps
