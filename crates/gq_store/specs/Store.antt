-- What contracts see of a store of chunks, and what its calls change.
use Rattle.std.specs.Prelude.{◌≡◌, ℕ, ◌+◌, ◌*◌, ◌/◌, ◌%◌, ◌<◌, ◌≤◌, ◌⊎◌, Option, Some, None}

pub record Store : Type 0 where
  -- the byte of a chunk at an offset
  pub byte : ℕ → ℕ → ℕ
  -- how many bytes a chunk has: 0 where there is no chunk of that number
  pub size : ℕ → ℕ
  -- how many bytes can still be paid
  pub left : ℕ
  -- how many capabilities there are still, or None where they aren't counted
  pub caps : Option ℕ

-- the number that the four bytes from o on spell, the lowest first
abbrev pub word : (ℕ → ℕ) → ℕ → ℕ
word f o = f o + 256 * f (o + 1) + 65536 * f (o + 2) + 16777216 * f (o + 3)

-- the four bytes from o on are those of n, the lowest first
pub record IsWord (f : ℕ → ℕ) (o n : ℕ) : Type 0 where
  pub at_0 : f o ≡ n % 256
  pub at_1 : f (o + 1) ≡ n / 256 % 256
  pub at_2 : f (o + 2) ≡ n / 65536 % 256
  pub at_3 : f (o + 3) ≡ n / 16777216

-- one capability more, where they are counted
abbrev pub one_more : Option ℕ → Option ℕ
one_more None = None
one_more (Some n) = Some (n + 1)

-- n capabilities more, where they are counted
abbrev pub plus_caps : ℕ → Option ℕ → Option ℕ
plus_caps n None = None
plus_caps n (Some m) = Some (m + n)

-- CALLS

-- Nothing differs but, it may be, the n bytes of the chunk c from start on.
pub record Writes (old new : Store) (c start n : ℕ) : Type 0 where
  pub elsewhere : (k i : ℕ) → (k ≡ c → start ≤ i → i < start + n → ⊥) → new.byte k i ≡ old.byte k i
  pub size : (k : ℕ) → new.size k ≡ old.size k
  pub left : new.left ≡ old.left
  pub caps : new.caps ≡ old.caps

-- There is a new chunk c of n bytes, each 0, and it is paid.
pub record Grows (old new : Store) (c n : ℕ) : Type 0 where
  pub number : c < 1048576
  pub fresh : old.size c ≡ 0
  pub size : new.size c ≡ n
  pub zero : (i : ℕ) → i < n → new.byte c i ≡ 0
  pub sizes : (k : ℕ) → (k ≡ c → ⊥) → new.size k ≡ old.size k
  pub bytes : (k i : ℕ) → (k ≡ c → ⊥) → new.byte k i ≡ old.byte k i
  pub paid : new.left + n ≡ old.left
  pub caps : old.caps ≡ one_more new.caps
  -- a chunk has at most 16384 pages
  pub few : n ≤ 67108864

-- The chunk c is gone, and what it cost is back.
pub record Shrinks (old new : Store) (c : ℕ) : Type 0 where
  pub gone : new.size c ≡ 0
  pub sizes : (k : ℕ) → (k ≡ c → ⊥) → new.size k ≡ old.size k
  pub bytes : (k i : ℕ) → (k ≡ c → ⊥) → new.byte k i ≡ old.byte k i
  pub back : new.left ≡ old.left + old.size c
  pub caps : new.caps ≡ one_more old.caps

-- SEVERAL IN ONE STORE
-- Whatever lies in a store owns some of its chunks. A call of it takes only chunks that were not there, and spares all chunks that were there and
-- that it does not own. So what else lies in the store keeps its chunks, its bytes and what it says of them.

-- Of the chunks that were there, n bytes of the chunk c from start on may differ, and nothing else. No chunk but c is new.
pub record Leaves (old new : Store) (c start n : ℕ) : Type 0 where
  pub bytes : (k i : ℕ) → 0 < old.size k → (k ≡ c → start ≤ i → i < start + n → ⊥) → new.byte k i ≡ old.byte k i
  pub sizes : (k : ℕ) → 0 < old.size k → new.size k ≡ old.size k
  pub no_other : (k : ℕ) → (k ≡ c → ⊥) → new.size k ≡ old.size k

-- The chunk k is as it was.
pub record SameChunk (old new : Store) (k : ℕ) : Type 0 where
  pub size : new.size k ≡ old.size k
  pub bytes : (i : ℕ) → new.byte k i ≡ old.byte k i

-- Each chunk that was there and is not one of these is as it was.
abbrev pub Spares : (ℕ → Type 0) → Store → Store → Type 0
Spares mine old new = (k : ℕ) → 0 < old.size k → (mine k → ⊥) → SameChunk old new k

-- No chunk is one of both.
abbrev pub Apart : (ℕ → Type 0) → (ℕ → Type 0) → Type 0
Apart mine other = (k : ℕ) → mine k → other k → ⊥

-- Each of these chunks is there.
abbrev pub AreThere : (ℕ → Type 0) → Store → Type 0
AreThere mine st = (k : ℕ) → mine k → 0 < st.size k

-- Each chunk owned now was owned before, or was not there.
abbrev pub TakesNew : (ℕ → Type 0) → (ℕ → Type 0) → Store → Type 0
TakesNew before now old = (k : ℕ) → now k → before k ⊎ (old.size k ≡ 0)
