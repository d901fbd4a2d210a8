-- For callers: the bytes of a block as a list.
use Rattle.std.proofs.Common.{◌≡◌, ℕ, ◌+◌, ◌<◌, ◌≤◌, List, [], ◌∷◌, ◌++◌, length, replicate, get_or, set, take, drop, arith}
use Rattle.std.specs.Prelude.{slice_range}
use Rattle.gq_model.specs.machine.Program.{little}
use Rattle.gq_store.specs.Store.{Store, word}
use Rattle.gq_store.proofs.Stored_byte_lists.{get_or-listed, listed_same, listed_zero, listed_one, listed_put, listed_word}
use Rattle.gq_heap.specs.declared.heap.Heap.{Heap}
use Rattle.gq_heap.specs.declared.heap.Place.{Place}
use Rattle.gq_heap.specs.Heap.{Inserts, Allocates, PutsInBlock, SameBytes, room_of, byte_of, block_bytes}

-- what is read
pub block_byte : (st : Store) (p : Place) (n i : ℕ) → i < n → get_or (block_bytes st p n) i 0 ≡ byte_of st p i
block_byte st p n i l = get_or-listed n (byte_of st p) i 0 l

pub block_word : (st : Store) (p : Place) (n i : ℕ) → i + 4 ≤ n → little (slice_range (block_bytes st p n) i (i + 4)) ≡ word (byte_of st p) i
block_word st p n i l = listed_word n (byte_of st p) i l

-- a new block reads 0
pub block_made : (before after : Heap) (old new : Store) (m n : ℕ) (p : Place) → n ≤ room_of p → Allocates before after old new m p
    → block_bytes new p n ≡ replicate n 0
block_made before after old new m n p l a = listed_zero n (byte_of new p) (λ i below. a.zero i (omega arith))

-- what some bytes, or one, that are put there change
pub block_put : (heap : Heap) (old new : Store) (p : Place) (n i : ℕ) (bytes : List ℕ) → i + length bytes ≤ n → PutsInBlock heap old new p i bytes
    → block_bytes new p n ≡ take i (block_bytes old p n) ++ bytes ++ drop (i + length bytes) (block_bytes old p n)
block_put heap old new p n i bytes l w = listed_put n (byte_of old p) (byte_of new p) i bytes l w.put

pub block_set : (heap : Heap) (old new : Store) (p : Place) (n i b : ℕ) → i < n → PutsInBlock heap old new p i (b ∷ [])
    → block_bytes new p n ≡ set (block_bytes old p n) i b
block_set heap old new p n i b l w = listed_one n (byte_of old p) (byte_of new p) i b l w.put

-- a block reads as before where a call says so of the places
pub block_same : (old new : Store) (p : Place) (rest places : List Place) (n : ℕ) → n ≤ room_of p → Inserts p rest places → SameBytes old new places
    → block_bytes new p n ≡ block_bytes old p n
block_same old new p rest places n l ins same = listed_same n (byte_of new p) (byte_of old p) 0 (λ i below. same p rest ins i (omega arith))
