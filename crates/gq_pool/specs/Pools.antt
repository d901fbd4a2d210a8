-- What pool, heap and store keep together, and what the calls of a pool change.
use Rattle.std.specs.Prelude.{◌≡◌, ℕ, zero, suc, ◌+◌, ◌*◌, ◌<◌, ◌≤◌, ◌⊎◌, Bool, true, false, List, [], ◌∷◌, ◌++◌, length, map, get_or, set, max, replicate}
use Rattle.std.specs.Prelude.{Option, Some, None}
use Rattle.gq_tariff.specs.Prices.{up, class_size, size_for}
use Rattle.gq_tariff.specs.declared.class.Class.{Class}
use Rattle.gq_store.specs.Store.{Store, word, one_more, plus_caps, Spares, TakesNew}
use Rattle.gq_store.specs.Chunk_bytes.{listed, PutsBytes}
use Rattle.gq_heap.specs.declared.heap.Heap.{Heap}
use Rattle.gq_heap.specs.declared.heap.Place.{Place}
use Rattle.gq_heap.specs.declared.heap.Place.TheVariants.{Small}
use Rattle.gq_heap.specs.Heap.{Owns, SameBytes, byte_of, peaks, peak_of, count_of as count_in, rise, rise_caps, charge, charge_caps, KeepsPlaces as KeepsHeap}
use Rattle.gq_heap.specs.Heap.{KeepsWithin as HeapWithin}
use Rattle.gq_pool.specs.declared.pool.Pool.{Pool}

-- the bytes of an entry, and how many entries there are
abbrev pub size_of : Pool → ℕ
size_of pool = pool.size

abbrev pub count_of : Pool → ℕ
count_of pool = pool.count

-- what the table has for an entry: 0, or the number of its place and one
abbrev pub word_of : Option ℕ → ℕ
word_of None = 0
word_of (Some q) = q + 1

-- the entry i is absent
abbrev pub IsAbsent : Pool → Store → ℕ → Type 0
IsAbsent pool st i = word (st.byte pool.table) (4 * i) ≡ 0

-- the places of the entries that are there
abbrev pub places_of : Class → List (Option ℕ) → List Place
places_of c [] = []
places_of c (None ∷ held) = places_of c held
places_of c (Some q ∷ held) = Small c q ∷ places_of c held

-- byte k of an entry, 0 where it is absent
abbrev pub entry_byte : Pool → Store → Option ℕ → ℕ → ℕ
entry_byte pool st None k = 0
entry_byte pool st (Some q) k = byte_of st (Small pool.class q) k

-- what the table says of an entry whose word is n
abbrev pub entry_of : ℕ → Option ℕ
entry_of zero = None
entry_of (suc q) = Some q

-- the places of all entries, as the table has them
abbrev pub held_of : Pool → Store → List (Option ℕ)
held_of pool st = listed pool.count (λ i. entry_of (word (st.byte pool.table) (4 * i)))

-- the bytes of an entry at a place, as a list
abbrev pub entry_bytes : Pool → Store → Option ℕ → Option (List ℕ)
entry_bytes pool st None = None
entry_bytes pool st (Some q) = Some (listed pool.size (byte_of st (Small pool.class q)))

-- all entries: the bytes of each that is there
abbrev pub entries_of : Pool → Store → List (Option (List ℕ))
entries_of pool st = map (entry_bytes pool st) (held_of pool st)

-- The table of the pool has these places, one for each entry that is there.
pub record IsTable (pool : Pool) (st : Store) (held : List (Option ℕ)) : Type 0 where
  pub pages : st.size pool.table ≡ up (4 * pool.count)
  pub number : pool.table < 1048576
  pub count : length held ≡ pool.count
  pub some : 1 ≤ pool.count
  pub few : pool.count ≤ 1024
  pub entry : (1 ≤ pool.size) × (pool.size ≤ 2048)
  pub class : class_size pool.class ≡ size_for pool.size
  pub words : (i : ℕ) → i < length held → word (st.byte pool.table) (4 * i) ≡ word_of (get_or held i None)

-- Pool, heap and store keep these entries, and the heap these other places beside them. The table is none of the heap's chunks.
pub record KeepsPool (pool : Pool) (heap : Heap) (st : Store) (held : List (Option ℕ)) (others : List Place) : Type 0 where
  pub table : IsTable pool st held
  pub blocks : KeepsHeap heap st (places_of pool.class held ++ others)
  pub apart : Owns heap st (places_of pool.class held ++ others) blocks pool.table → ⊥

-- They keep some.
pub record IsPool (pool : Pool) (heap : Heap) (st : Store) : Type 0 where
  pub held : List (Option ℕ)
  pub others : List Place
  pub keeps : KeepsPool pool heap st held others

-- the chunks of pool and heap
abbrev pub OwnsBoth : (pool : Pool) (heap : Heap) (st : Store) (held : List (Option ℕ)) (others : List Place) → KeepsPool pool heap st held others → ℕ → Type 0
OwnsBoth pool heap st held others k x = (x ≡ pool.table) ⊎ Owns heap st (places_of pool.class held ++ others) k.blocks x

-- Two pools on one heap in one store: each keeps its entries, beside those of the other and these other places, and the table of one is no chunk of the
-- other's or of the heap's.
pub record KeepsTwo (first second : Pool) (heap : Heap) (st : Store) (held more : List (Option ℕ)) (others : List Place) : Type 0 where
  pub keeps : KeepsPool first heap st held (places_of second.class more ++ others)
  pub table : IsTable second st more
  pub apart : OwnsBoth first heap st held (places_of second.class more ++ others) keeps second.table → ⊥

-- the chunks of both and of the heap
abbrev pub OwnsTwo : (first second : Pool) (heap : Heap) (st : Store) (held more : List (Option ℕ)) (others : List Place)
    → KeepsTwo first second heap st held more others → ℕ → Type 0
OwnsTwo first second heap st held more others t x = OwnsBoth first heap st held (places_of second.class more ++ others) t.keeps x ⊎ (x ≡ second.table)

-- Both keep these entries now, in chunks that were theirs or were not there.
pub record KeepsTwoNow (first second : Pool) (after : Heap) (old new : Store) (held more : List (Option ℕ)) (others : List Place) (owned : ℕ → Type 0)
    : Type 0 where
  pub keeps : KeepsTwo first second after new held more others
  pub owns : TakesNew owned (OwnsTwo first second after new held more others keeps) old

-- CALLS

-- There is a new pool of so many entries, each absent, whatever the heap. Its table is a chunk that was not there.
pub record Makes (old new : Store) (size count : ℕ) (pool : Pool) : Type 0 where
  pub size_is : pool.size ≡ size
  pub count_is : pool.count ≡ count
  pub fresh : old.size pool.table ≡ 0
  pub table : IsTable pool new (replicate count None)
  pub spares : Spares (λ x. ⊥) old new
  pub sizes : (x : ℕ) → (x ≡ pool.table → ⊥) → new.size x ≡ old.size x
  pub paid : new.left + up (4 * count) ≡ old.left
  pub caps : old.caps ≡ one_more new.caps

-- These entries and other places are kept now, in chunks that were theirs or were not there.
pub record KeepsNow (pool : Pool) (after : Heap) (old new : Store) (held : List (Option ℕ)) (others : List Place) (owned : ℕ → Type 0) : Type 0 where
  pub keeps : KeepsPool pool after new held others
  pub owns : TakesNew owned (OwnsBoth pool after new held others keeps) old
  pub spares : Spares owned old new

-- These entries and other places are kept now, in chunks that were theirs.
pub record KeepsWithin (pool : Pool) (after : Heap) (old new : Store) (held : List (Option ℕ)) (others : List Place) (owned : ℕ → Type 0) : Type 0 where
  pub keeps : KeepsPool pool after new held others
  pub owns : (k : ℕ) → OwnsBoth pool after new held others keeps k → owned k
  pub spares : Spares owned old new

-- The entry i was added, at a place that reads 0.
pub record Adds (pool : Pool) (before after : Heap) (old new : Store) (i : ℕ) : Type 0 where
  pub place : ℕ
  pub keeps : (held : List (Option ℕ)) (others : List Place) (k : KeepsPool pool before old held others)
      → KeepsNow pool after old new (set held i (Some place)) others (OwnsBoth pool before old held others k)
  pub zero : (k : ℕ) → k < pool.size → entry_byte pool new (Some place) k ≡ 0
  pub bytes : (held : List (Option ℕ)) (others : List Place) → KeepsPool pool before old held others → SameBytes old new (places_of pool.class held ++ others)
  pub paid : new.left + rise before pool.size ≡ old.left
  pub caps : old.caps ≡ plus_caps (rise_caps before pool.size) new.caps
  pub eight : (length (peaks before) ≡ 8) × (length (peaks after) ≡ 8)
  -- each peak is raised to what is in use now
  pub peaks : (held : List (Option ℕ)) (others : List Place) → KeepsPool pool before old held others → (c : Class)
      → peak_of after c ≡ max (peak_of before c) (count_in c (places_of pool.class (set held i (Some place)) ++ others))
  pub charge : charge after ≡ charge before + rise before pool.size
  pub charge_caps : charge_caps after ≡ charge_caps before + rise_caps before pool.size

-- The entry i is there now; it was added exactly where it was absent, and nothing changed where it was there.
pub record AddsEntry (pool : Pool) (before after : Heap) (old new : Store) (i : ℕ) (added : Bool) : Type 0 where
  pub there : (IsAbsent pool old i → ⊥) → (added ≡ false) × (after ≡ before) × (new ≡ old)
  pub absent : IsAbsent pool old i → (added ≡ true) × Adds pool before after old new i

-- The entry i was removed, and its place is free.
pub record Removes (pool : Pool) (before after : Heap) (old new : Store) (i : ℕ) : Type 0 where
  pub keeps : (held : List (Option ℕ)) (others : List Place) (k : KeepsPool pool before old held others)
      → KeepsWithin pool after old new (set held i None) others (OwnsBoth pool before old held others k)
  pub bytes : (held : List (Option ℕ)) (others : List Place) → KeepsPool pool before old held others
      → SameBytes old new (places_of pool.class (set held i None) ++ others)
  pub left : new.left ≡ old.left
  pub caps : new.caps ≡ old.caps
  pub peaks : peaks after ≡ peaks before
  pub charge : charge after ≡ charge before
  pub charge_caps : charge_caps after ≡ charge_caps before

-- The entry i is absent now; it was removed exactly where it was there, and nothing changed where it was absent.
pub record RemovesEntry (pool : Pool) (before after : Heap) (old new : Store) (i : ℕ) (removed : Bool) : Type 0 where
  pub absent : IsAbsent pool old i → (removed ≡ false) × (after ≡ before) × (new ≡ old)
  pub there : (IsAbsent pool old i → ⊥) → (removed ≡ true) × Removes pool before after old new i

-- The byte k of the entry i is b.
abbrev pub Reads : Pool → Heap → Store → ℕ → ℕ → ℕ → Type 0
Reads pool heap st i k b = (held : List (Option ℕ)) (others : List Place) → KeepsPool pool heap st held others → b ≡ entry_byte pool st (get_or held i None) k

-- These bytes stand in the entry i from k on now where the entry is there, and no other byte of a block changed; where it is absent nothing changed.
pub record PutsInEntry (pool : Pool) (heap : Heap) (old new : Store) (i k : ℕ) (bytes : List ℕ) : Type 0 where
  pub absent : IsAbsent pool old i → new ≡ old
  pub keeps : (held : List (Option ℕ)) (others : List Place) (kept : KeepsPool pool heap old held others)
      → KeepsWithin pool heap old new held others (OwnsBoth pool heap old held others kept)
  pub put : (held : List (Option ℕ)) (others : List Place) → KeepsPool pool heap old held others → (q : ℕ) → get_or held i None ≡ Some q
      → PutsBytes (entry_byte pool old (Some q)) (entry_byte pool new (Some q)) k bytes
  pub others : (held : List (Option ℕ)) (others : List Place) → KeepsPool pool heap old held others
      → SameBytes old new (places_of pool.class (set held i None) ++ others)
  pub left : new.left ≡ old.left
  pub caps : new.caps ≡ old.caps

-- The entries and the table are gone: the heap keeps the other places, as they read before.
pub record Ends (pool : Pool) (before after : Heap) (old new : Store) : Type 0 where
  pub keeps : (held : List (Option ℕ)) (others : List Place) (k : KeepsPool pool before old held others)
      → HeapWithin after old new others (OwnsBoth pool before old held others k)
  pub bytes : (held : List (Option ℕ)) (others : List Place) → KeepsPool pool before old held others → SameBytes old new others
  pub gone : new.size pool.table ≡ 0
  pub left : new.left ≡ old.left + up (4 * pool.count)
  pub caps : new.caps ≡ one_more old.caps
  pub peaks : peaks after ≡ peaks before
  pub charge : charge after ≡ charge before
  pub charge_caps : charge_caps after ≡ charge_caps before
