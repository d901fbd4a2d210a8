-- What a call leaves of a heap and the store, with the place that it worked on.
use Rattle.std.proofs.Common.{◌≡◌, ℕ, ◌+◌, ◌/◌, ◌<◌, ◌≤◌, ◌⊎◌, List, [], ◌∷◌, length, max}
use Rattle.gq_store.specs.Store.{Store, Writes, Leaves, plus_caps}
use Rattle.gq_store.specs.Chunk_bytes.{HasBytes}
use Rattle.gq_tariff.specs.declared.class.Class.{Class}
use Rattle.gq_heap.specs.declared.bin.Bin.{Bin}
use Rattle.gq_heap.specs.declared.heap.Heap.{Heap}
use Rattle.gq_heap.specs.declared.heap.Place.{Place}
use Rattle.gq_heap.specs.Bins.{bin_price}
use Rattle.gq_heap.specs.Classes.{size_at}
use Rattle.gq_heap.specs.Heap.{KeepsPlaces, Owns, Inserts, IsFor, chunk_of, offset_of, room_of, byte_of, rise, rise_caps, price_of, caps_of, peaks, peak_of}
use Rattle.gq_heap.specs.Heap.{count_of}

-- what the classes cost, by their bins from the i-th on
abbrev pub price_from : ℕ → List Bin → ℕ
price_from i [] = 0
price_from i (b ∷ bs) = bin_price (size_at i) b.peak + price_from (i + 1) bs

abbrev pub charge_from : Heap → ℕ
charge_from heap = price_from 0 heap.bins + heap.large

abbrev pub caps_from : Heap → ℕ
caps_from heap = price_from 0 heap.bins / 4096 + heap.large_count

-- The heap keeps these places; of the chunks that it owns, only that of p may be new.
pub record KeepsAlso (after : Heap) (old new : Store) (p : Place) (more : List Place) (owned : ℕ → Type 0) : Type 0 where
  pub keeps : KeepsPlaces after new more
  pub owns : (k : ℕ) → Owns after new more keeps k → owned k ⊎ ((k ≡ chunk_of p) × (old.size k ≡ 0))

-- The heap keeps these places, in chunks that it owned.
pub record KeepsRest (after : Heap) (new : Store) (rest : List Place) (owned : ℕ → Type 0) : Type 0 where
  pub keeps : KeepsPlaces after new rest
  pub owns : (k : ℕ) → Owns after new rest keeps k → owned k

pub record Made (before after : Heap) (old new : Store) (n : ℕ) (p : Place) : Type 0 where
  pub keeps : (places more : List Place) (k : KeepsPlaces before old places) → Inserts p places more → KeepsAlso after old new p more (Owns before old places k)
  pub kind : IsFor n p
  pub zero : (i : ℕ) → i < room_of p → byte_of new p i ≡ 0
  pub alone : Leaves old new (chunk_of p) (offset_of p) (room_of p)
  pub paid : new.left + rise before n ≡ old.left
  pub caps : old.caps ≡ plus_caps (rise_caps before n) new.caps
  pub charge : charge_from after ≡ charge_from before + rise before n
  pub charge_caps : caps_from after ≡ caps_from before + rise_caps before n
  pub peaks : (places more : List Place) → KeepsPlaces before old places → Inserts p places more → (c : Class)
      → peak_of after c ≡ max (peak_of before c) (count_of c more)

pub record Freed (before after : Heap) (old new : Store) (p : Place) : Type 0 where
  pub keeps : (places rest : List Place) (k : KeepsPlaces before old places) → Inserts p rest places → KeepsRest after new rest (Owns before old places k)
  -- of the chunks that are left nothing but the block's bytes changed
  pub bytes : (k i : ℕ) → 0 < new.size k → (k ≡ chunk_of p → offset_of p ≤ i → i < offset_of p + room_of p → ⊥) → new.byte k i ≡ old.byte k i
  pub sizes : (k : ℕ) → (k ≡ chunk_of p → ⊥) → new.size k ≡ old.size k
  pub paid : new.left ≡ old.left + price_of p
  pub caps : new.caps ≡ plus_caps (caps_of p) old.caps
  pub charge : charge_from after + price_of p ≡ charge_from before
  pub charge_caps : caps_from after + caps_of p ≡ caps_from before
  pub peaks : peaks after ≡ peaks before

pub record Written (heap : Heap) (old new : Store) (p : Place) (i : ℕ) (bytes : List ℕ) : Type 0 where
  pub keeps : (places rest : List Place) (k : KeepsPlaces heap old places) → Inserts p rest places → KeepsRest heap new places (Owns heap old places k)
  pub here : HasBytes (byte_of new p) i bytes
  pub alone : Writes old new (chunk_of p) (offset_of p + i) (length bytes)
