-- What a store keeps of a slice, and what the calls of a sliced heap change.
-- A slice is a chunk by itself, so the relation is of the store and one slice; a caller with several has it of each.
use Rattle.std.specs.Prelude.{◌≡◌, ℕ, ◌+◌, ◌<◌, ◌≤◌, List}
use Rattle.gq_tariff.specs.Prices.{up}
use Rattle.gq_store.specs.Store.{Store, word, one_more, Spares}
use Rattle.gq_store.specs.Chunk_bytes.{listed, PutsBytes}

-- the byte i of a slice, after 32 bytes of bookkeeping
abbrev pub slice_byte : Store → ℕ → ℕ → ℕ
slice_byte st k i = st.byte k (32 + i)

-- its n bytes, as a list
abbrev pub slice_bytes : Store → ℕ → ℕ → List ℕ
slice_bytes st k n = listed n (slice_byte st k)

-- The chunk k is a slice of n bytes, with n at its start.
pub record HasSize (st : Store) (k n : ℕ) : Type 0 where
  pub pages : st.size k ≡ up (n + 32)
  pub prefix : word (st.byte k) 0 ≡ n
  pub small : n ≤ 67108864
  pub number : k < 1048576

-- It is a slice of some size.
pub record IsInUse (st : Store) (k : ℕ) : Type 0 where
  pub size : ℕ
  pub has : HasSize st k size

-- It is a slice of more than i bytes.
pub record HasByte (st : Store) (k i : ℕ) : Type 0 where
  pub size : ℕ
  pub has : HasSize st k size
  pub inside : i < size

-- The one chunk that a slice owns.
abbrev pub Owns : ℕ → ℕ → Type 0
Owns slice k = k ≡ slice

-- CALLS

-- There is a new slice k of n bytes. It owns a chunk that was not there; each chunk that was there is as it was.
pub record Makes (old new : Store) (n k : ℕ) : Type 0 where
  pub fresh : old.size k ≡ 0
  pub has : HasSize new k n
  pub zero : (i : ℕ) → i < n → slice_byte new k i ≡ 0
  pub spares : Spares (λ x. ⊥) old new
  pub sizes : (x : ℕ) → (x ≡ k → ⊥) → new.size x ≡ old.size x
  pub paid : new.left + up (n + 32) ≡ old.left
  pub caps : old.caps ≡ one_more new.caps

-- The slice k is gone, and what it cost is back.
pub record Frees (old new : Store) (k : ℕ) : Type 0 where
  pub gone : new.size k ≡ 0
  pub spares : Spares (Owns k) old new
  pub sizes : (x : ℕ) → (x ≡ k → ⊥) → new.size x ≡ old.size x
  pub back : (n : ℕ) → HasSize old k n → new.left ≡ old.left + up (n + 32)
  pub caps : new.caps ≡ one_more old.caps

-- These bytes stand in the slice k from i on now, and no other byte changed.
pub record PutsInSlice (old new : Store) (k i : ℕ) (bytes : List ℕ) : Type 0 where
  pub keeps : (n : ℕ) → HasSize old k n → HasSize new k n
  pub put : PutsBytes (slice_byte old k) (slice_byte new k) i bytes
  pub spares : Spares (Owns k) old new
  pub sizes : (x : ℕ) → new.size x ≡ old.size x
  pub left : new.left ≡ old.left
  pub caps : new.caps ≡ old.caps
