-- For callers: the bytes of a slice as a list.
use Rattle.std.proofs.Common.{◌≡◌, ℕ, ◌+◌, ◌<◌, ◌≤◌, List, [], ◌∷◌, ◌++◌, length, replicate, get_or, set, take, drop}
use Rattle.std.specs.Prelude.{slice_range}
use Rattle.gq_model.specs.machine.Program.{little}
use Rattle.gq_store.specs.Store.{Store, word, SameChunk}
use Rattle.gq_store.proofs.Stored_byte_lists.{get_or-listed, listed_same, listed_zero, listed_one, listed_put, listed_word}
use Rattle.gq_sliced.specs.Slices.{slice_byte, slice_bytes, Makes, PutsInSlice}

-- what is read
pub slice_byte_of : (st : Store) (k n i : ℕ) → i < n → get_or (slice_bytes st k n) i 0 ≡ slice_byte st k i
slice_byte_of st k n i l = get_or-listed n (slice_byte st k) i 0 l

pub slice_word : (st : Store) (k n i : ℕ) → i + 4 ≤ n → little (slice_range (slice_bytes st k n) i (i + 4)) ≡ word (slice_byte st k) i
slice_word st k n i l = listed_word n (slice_byte st k) i l

-- a new slice reads 0
pub slice_made : (old new : Store) (n k : ℕ) → Makes old new n k → slice_bytes new k n ≡ replicate n 0
slice_made old new n k m = listed_zero n (slice_byte new k) m.zero

-- what some bytes, or one, that are put there change
pub slice_put : (old new : Store) (k n i : ℕ) (bytes : List ℕ) → i + length bytes ≤ n → PutsInSlice old new k i bytes
    → slice_bytes new k n ≡ take i (slice_bytes old k n) ++ bytes ++ drop (i + length bytes) (slice_bytes old k n)
slice_put old new k n i bytes l w = listed_put n (slice_byte old k) (slice_byte new k) i bytes l w.put

pub slice_set : (old new : Store) (k n i b : ℕ) → i < n → PutsInSlice old new k i (b ∷ []) → slice_bytes new k n ≡ set (slice_bytes old k n) i b
slice_set old new k n i b l w = listed_one n (slice_byte old k) (slice_byte new k) i b l w.put

-- a slice reads as before where its chunk is as it was
pub slice_same : (old new : Store) (k n : ℕ) → SameChunk old new k → slice_bytes new k n ≡ slice_bytes old k n
slice_same old new k n same = listed_same n (slice_byte new k) (slice_byte old k) 0 (λ i l. same.bytes (32 + i))
