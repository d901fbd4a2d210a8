-- A class of the heap: the head of its chain of free places, how many places are in use, and how many were at most.
use Rattle.std.specs.Prelude.{◌≡◌, ℕ, ◌+◌, ◌*◌, ◌/◌, ◌%◌, ◌<◌, ◌≤◌, ◌⊎◌, List, ◌∷◌, length}
use Rattle.gq_tariff.specs.Prices.{up}
use Rattle.gq_store.specs.Store.{Store, Writes, Grows, Leaves, plus_caps}
use Rattle.gq_heap.specs.declared.bin.Bin.{Bin}
use Rattle.gq_heap.specs.List_occurrences.{times}
use Rattle.gq_heap.specs.Bins.{bin_price, next_peak}
use Rattle.gq_heap.specs.internal.Chain.{Adds, place_byte, link, Places, IsChain, descending}

-- Bin and store keep these places of z bytes in use, in these chunks of p places each, which are paid by the peak.
pub record KeepsBin (z p : ℕ) (bin : Bin) (st : Store) (used mine : List ℕ) : Type 0 where
  pub free : List ℕ
  pub places : Places z p bin.head st free used mine
  pub count : bin.count ≡ length used
  pub peak : bin.count ≤ bin.peak
  pub charge : up (z * bin.peak) ≡ 4096 * length mine

-- They keep some.
pub record IsBin (z p : ℕ) (bin : Bin) (st : Store) : Type 0 where
  pub used : List ℕ
  pub mine : List ℕ
  pub kept : KeepsBin z p bin st used mine

-- the chunks are those of before, or these and c, which is new
abbrev pub WithChunk : Store → ℕ → List ℕ → List ℕ → Type 0
WithChunk old c before after = (after ≡ before) ⊎ ((after ≡ c ∷ before) × (old.size c ≡ 0))

-- These places are in use now, in chunks that may be one more.
pub record KeepsMore (z p : ℕ) (bin : Bin) (old new : Store) (q : ℕ) (more mine : List ℕ) : Type 0 where
  pub mine_after : List ℕ
  pub chunks : WithChunk old (q / p) mine mine_after
  pub kept : KeepsBin z p bin new more mine_after

-- One place more is in use, q. Whatever list of places the caller has, it wasn't in it.
pub record TakesPlace (z p : ℕ) (before after : Bin) (old new : Store) (q : ℕ) : Type 0 where
  pub fresh : (used mine : List ℕ) → KeepsBin z p before old used mine → times q used ≡ 0
  pub kept : (used mine more : List ℕ) → KeepsBin z p before old used mine → Adds q used more → KeepsMore z p after old new q more mine
  pub zero : (i : ℕ) → i < z → place_byte new z p q i ≡ 0
  pub alone : Leaves old new (q / p) (q % p * z) z
  pub peak : after.peak ≡ next_peak before
  pub paid : new.left + bin_price z after.peak ≡ old.left + bin_price z before.peak
  pub caps : plus_caps (bin_price z after.peak / 4096) new.caps ≡ plus_caps (bin_price z before.peak / 4096) old.caps

-- The place q is free.
pub record FreesPlace (z p : ℕ) (before after : Bin) (old new : Store) (q : ℕ) : Type 0 where
  pub kept : (used mine rest : List ℕ) → KeepsBin z p before old used mine → Adds q rest used → KeepsBin z p after new rest mine
  pub alone : Writes old new (q / p) (q % p * z) z
  pub peak : after.peak ≡ before.peak

-- A place of the chunks that some list of places in use has.
pub record HasPlace (z p : ℕ) (bin : Bin) (st : Store) (q : ℕ) : Type 0 where
  pub used : List ℕ
  pub mine : List ℕ
  pub kept : KeepsBin z p bin st used mine
  pub has : 0 < times q used

-- A chunk was added and its places are chained.
pub record Chains (z p head : ℕ) (old new : Store) : Type 0 where
  pub chunk : ℕ
  pub grown : Store
  pub grows : Grows old grown chunk 4096
  pub writes : Writes grown new chunk 0 4096
  pub chain : IsChain (link new z p) head (descending (chunk * p) p)
