-- Two pools, a block and a slice in one store.
use Rattle.std.specs.Prelude.{◌≡◌, ℕ, List, ◌∷◌, Option, Some, None, get_or}
use Rattle.gq_store.specs.Store.{Store}
use Rattle.gq_heap.specs.declared.heap.Heap.{Heap}
use Rattle.gq_heap.specs.declared.heap.Place.{Place}
use Rattle.gq_heap.specs.Heap.{byte_of}
use Rattle.gq_sliced.specs.Slices.{HasSize, slice_byte}
use Rattle.gq_pool.specs.declared.pool.Pool.{Pool}
use Rattle.gq_pool.specs.Pools.{entry_byte, KeepsPool, KeepsTwo, OwnsTwo}

-- The pools keep these entries, the heap beside them the block and these other places, and the slice is none of their chunks. The byte 3 of the slice
-- is 7, the byte 0 of the block is 9.
pub record AreLaid (first second : Pool) (heap : Heap) (st : Store) (block : Place) (slice : ℕ) (held more : List (Option ℕ)) (others : List Place)
    : Type 0 where
  pub pools : KeepsTwo first second heap st held more (block ∷ others)
  pub has : HasSize st slice 16
  pub apart : OwnsTwo first second heap st held more (block ∷ others) pools slice → ⊥
  pub in_slice : slice_byte st slice 3 ≡ 7
  pub in_block : byte_of st block 0 ≡ 9

-- each pool has four entries of 16 bytes
pub record IsLaid (first second : Pool) (heap : Heap) (st : Store) (block : Place) (slice : ℕ) : Type 0 where
  pub held : List (Option ℕ)
  pub more : List (Option ℕ)
  pub others : List Place
  pub laid : AreLaid first second heap st block slice held more others
  pub four : (first.count ≡ 4) × (first.size ≡ 16) × (second.count ≡ 4) × (second.size ≡ 16)

-- The entry 0 of the first pool is there, too, and its byte 2 is v.
pub record IsFilled (first second : Pool) (heap : Heap) (st : Store) (block : Place) (slice v : ℕ) : Type 0 where
  pub held : List (Option ℕ)
  pub more : List (Option ℕ)
  pub others : List Place
  pub laid : AreLaid first second heap st block slice held more others
  pub four : (first.count ≡ 4) × (first.size ≡ 16) × (second.count ≡ 4) × (second.size ≡ 16)
  pub entry : ℕ
  pub at : get_or held 0 None ≡ Some entry
  pub in_entry : entry_byte first st (Some entry) 2 ≡ v

-- The same, where the second pool has ended.
pub record IsLeft (first : Pool) (heap : Heap) (st : Store) (block : Place) (slice v : ℕ) : Type 0 where
  pub held : List (Option ℕ)
  pub others : List Place
  pub keeps : KeepsPool first heap st held (block ∷ others)
  pub four : (first.count ≡ 4) × (first.size ≡ 16)
  pub entry : ℕ
  pub at : get_or held 0 None ≡ Some entry
  pub in_entry : entry_byte first st (Some entry) 2 ≡ v
  pub has : HasSize st slice 16
  pub in_slice : slice_byte st slice 3 ≡ 7
  pub in_block : byte_of st block 0 ≡ 9
