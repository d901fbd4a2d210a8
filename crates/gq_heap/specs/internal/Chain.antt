-- Places of one class: how the free ones are chained in the store, and which chunks they lie in.
use Rattle.std.specs.Prelude.{◌≡◌, ℕ, zero, suc, ◌+◌, ◌*◌, ◌/◌, ◌%◌, ◌<◌, ◌≤◌, List, [], ◌∷◌, length}
use Rattle.gq_store.specs.Store.{Store, word}
use Rattle.gq_heap.specs.List_occurrences.{times}

-- a chunk has p places of z bytes
pub record IsSize (z p : ℕ) : Type 0 where
  pub whole : z * p ≡ 4096
  pub words : z % 4 ≡ 0
  pub least : 16 ≤ z

-- new has x once more than old
pub record Adds (x : ℕ) (old new : List ℕ) : Type 0 where
  pub each : (y : ℕ) → times y new ≡ times y (x ∷ old)
  pub long : length new ≡ suc (length old)

-- the byte i of the place q
abbrev pub place_byte : Store → (z p q i : ℕ) → ℕ
place_byte st z p q i = st.byte (q / p) (q % p * z + i)

-- the number in the first four bytes of the place q
abbrev pub link : Store → (z p q : ℕ) → ℕ
link st z p q = word (st.byte (q / p)) (q % p * z)

-- the chain that begins at head has these places: each link is a number and one, the last one 0
abbrev pub IsChain : (ℕ → ℕ) → ℕ → List ℕ → Type 0
IsChain next head [] = head ≡ 0
IsChain next head (q ∷ qs) = (head ≡ q + 1) × IsChain next (next q) qs

-- from + n - 1, .., from + 1, from
abbrev pub descending : ℕ → ℕ → List ℕ
descending start zero = []
descending start (suc n) = (start + n) ∷ descending start n

-- The free places of the chain and the places in use are together the places of the chunks, each once.
pub record Places (z p head : ℕ) (st : Store) (free used mine : List ℕ) : Type 0 where
  pub chain : IsChain (link st z p) head free
  pub each : (q : ℕ) → times q free + times q used ≡ times (q / p) mine
  pub once : (c : ℕ) → times c mine ≤ 1
  pub chunk : (c : ℕ) → 0 < times c mine → (st.size c ≡ 4096) × (c < 1048576)
  pub all : length free + length used ≡ p * length mine
