-- What heap and store keep together, and what the calls of a heap change.
use Rattle.std.specs.Prelude.{◌≡◌, ℕ, ◌+◌, ◌-◌, ◌*◌, ◌/◌, ◌%◌, ◌<◌, ◌≤◌, ◌⊎◌, List, [], ◌∷◌, ◌++◌, max, length, get_or, cond, nat_lt, ◌==◌, if◌then◌else◌}
use Rattle.gq_tariff.specs.Prices.{up, class_size, size_for}
use Rattle.gq_tariff.specs.declared.class.Class.{Class}
use Rattle.gq_model.specs.machine.Amounts.{Ram, Caps}
use Rattle.gq_model.specs.machine.Resource_prices.{heap as class_prices}
use Rattle.gq_store.specs.Store.{Store, Spares, TakesNew, plus_caps}
use Rattle.gq_store.specs.Chunk_bytes.{listed, PutsBytes}
use Rattle.gq_heap.specs.declared.bin.Bin.{Bin}
use Rattle.gq_heap.specs.declared.heap.Heap.{Heap}
use Rattle.gq_heap.specs.declared.heap.Place.{Place}
use Rattle.gq_heap.specs.declared.heap.Place.TheVariants.{Small, Large}
use Rattle.gq_heap.specs.List_occurrences.{times}
use Rattle.gq_heap.specs.Classes.{index_of, size_at, places_at, class_for}
use Rattle.gq_heap.specs.internal.Bin.{KeepsBin}
use Rattle.gq_heap.specs.Bins.{bin_price, next_peak}

abbrev pub no_bin : Bin
no_bin = record { head = 0; count = 0; peak = 0 }

-- the i-th class
abbrev pub bin_at : Heap → ℕ → Bin
bin_at heap i = get_or heap.bins i no_bin

-- PLACES

-- the numbers of the places of the i-th class
abbrev pub numbers : ℕ → List Place → List ℕ
numbers i [] = []
numbers i (Small c n ∷ ps) = cond (index_of c == i) (n ∷ numbers i ps) (numbers i ps)
numbers i (Large k n ∷ ps) = numbers i ps

-- the chunks of the large blocks
abbrev pub large_chunks : List Place → List ℕ
large_chunks [] = []
large_chunks (Small c n ∷ ps) = large_chunks ps
large_chunks (Large k n ∷ ps) = k ∷ large_chunks ps

-- the price of the large blocks, in bytes
abbrev pub large_price : List Place → ℕ
large_price [] = 0
large_price (Small c n ∷ ps) = large_price ps
large_price (Large k n ∷ ps) = up n + large_price ps

-- each large block has its pages
abbrev pub AreLarge : Store → List Place → Type 0
AreLarge st [] = Unit {0}
AreLarge st (Small c n ∷ ps) = AreLarge st ps
AreLarge st (Large k n ∷ ps) = (st.size k ≡ up n) × (2048 < n) × (n ≤ 67108864) × (k < 1048576) × AreLarge st ps

-- new has p once more than old, somewhere
abbrev pub Inserts : Place → List Place → List Place → Type 0
Inserts p old new = (prefix : List Place) × (back : List Place) × (old ≡ prefix ++ back) × (new ≡ prefix ++ p ∷ back)

-- where a block lies: its chunk, the offset of its first byte, and how many bytes it has
abbrev pub chunk_of : Place → ℕ
chunk_of (Small c n) = n / places_at (index_of c)
chunk_of (Large k n) = k

abbrev pub offset_of : Place → ℕ
offset_of (Small c n) = n % places_at (index_of c) * size_at (index_of c)
offset_of (Large k n) = 0

abbrev pub room_of : Place → ℕ
room_of (Small c n) = size_at (index_of c)
room_of (Large k n) = up n

-- the byte i of a block
abbrev pub byte_of : Store → Place → ℕ → ℕ
byte_of st p i = st.byte (chunk_of p) (offset_of p + i)

-- the first n bytes of a block, as a list
abbrev pub block_bytes : Store → Place → ℕ → List ℕ
block_bytes st p n = listed n (byte_of st p)

-- the place is one for a block of n bytes: of the class of n, or a chunk of its own
abbrev pub IsFor : ℕ → Place → Type 0
IsFor n (Small c q) = (n ≤ 2048) × (class_size c ≡ size_for n)
IsFor n (Large k m) = (2048 < n) × (m ≡ n)

-- THE RELATION

-- Heap and store keep these places in use. What their bytes are, `byte_of` says.
pub record KeepsPlaces (heap : Heap) (st : Store) (places : List Place) : Type 0 where
  -- the chunks of each class
  pub mine : ℕ → List ℕ
  pub bin : (i : ℕ) → i < 8 → KeepsBin (size_at i) (places_at i) (bin_at heap i) st (numbers i places) (mine i)
  pub apart : (i j k : ℕ) → i < 8 → j < 8 → 0 < times k (mine i) → 0 < times k (mine j) → i ≡ j
  pub large : AreLarge st places
  pub large_once : (k : ℕ) → times k (large_chunks places) ≤ 1
  pub large_apart : (i k : ℕ) → i < 8 → 0 < times k (mine i) → times k (large_chunks places) ≡ 0
  pub large_sum : heap.large ≡ large_price places
  pub large_count : heap.large_count ≡ length (large_chunks places)

-- the chunk k is the heap's
abbrev pub Owns : (heap : Heap) (st : Store) (places : List Place) → KeepsPlaces heap st places → ℕ → Type 0
Owns heap st places keeps k = ((i : ℕ) × (i < 8) × (0 < times k (keeps.mine i))) ⊎ (0 < times k (large_chunks places))

-- They keep some places.
pub record IsHeap (heap : Heap) (st : Store) : Type 0 where
  pub places : List Place
  pub keeps : KeepsPlaces heap st places

-- They keep some places, of which p is one.
pub record IsInUse (heap : Heap) (st : Store) (p : Place) : Type 0 where
  pub places : List Place
  pub rest : List Place
  pub keeps : KeepsPlaces heap st places
  pub has : Inserts p rest places

-- They keep these places, and perhaps others.
pub record AreInUse (heap : Heap) (st : Store) (places : List Place) : Type 0 where
  pub others : List Place
  pub keeps : KeepsPlaces heap st (places ++ others)

-- PRICES

-- the peaks of all classes, by size
abbrev pub peaks_of : List Bin → List ℕ
peaks_of [] = []
peaks_of (b ∷ bs) = b.peak ∷ peaks_of bs

abbrev pub peaks : Heap → List ℕ
peaks heap = peaks_of heap.bins

-- the peak of a class
abbrev pub peak_of : Heap → Class → ℕ
peak_of heap c = (bin_at heap (index_of c)).peak

-- what the chunks of the classes cost, and the large blocks in use: in bytes, and in capabilities
abbrev pub charge : Heap → ℕ
charge heap = class_prices Ram (peaks heap) + heap.large

abbrev pub charge_caps : Heap → ℕ
charge_caps heap = class_prices Caps (peaks heap) + heap.large_count

-- how much the price of the class of a block of n bytes rises when one place more of it is in use
abbrev pub class_rise : Heap → ℕ → ℕ
class_rise heap n = bin_price (size_at (class_for n)) (next_peak (bin_at heap (class_for n))) - bin_price (size_at (class_for n))
    (bin_at heap (class_for n)).peak

-- how much the charge rises by a block of n bytes more: in bytes, and in capabilities
abbrev pub rise : Heap → ℕ → ℕ
rise heap n = if nat_lt 2048 n then up n else class_rise heap n

abbrev pub rise_caps : Heap → ℕ → ℕ
rise_caps heap n = if nat_lt 2048 n then 1 else class_rise heap n / 4096

-- the price of a block that isn't a place of a class: in bytes, and in capabilities
abbrev pub price_of : Place → ℕ
price_of (Small c n) = 0
price_of (Large k n) = up n

abbrev pub caps_of : Place → ℕ
caps_of (Small c n) = 0
caps_of (Large k n) = 1

-- how many places of a class are in use
abbrev pub count_of : Class → List Place → ℕ
count_of c places = length (numbers (index_of c) places)

-- CALLS

-- The heap keeps these places now. A chunk that it owns was its own or was not there, and it spares the chunks that it did not own.
pub record KeepsNow (after : Heap) (old new : Store) (places : List Place) (owned : ℕ → Type 0) : Type 0 where
  pub keeps : KeepsPlaces after new places
  pub owns : TakesNew owned (Owns after new places keeps) old
  pub spares : Spares owned old new

-- The heap keeps these places now, in chunks that it owned, and spares the chunks that it did not own.
pub record KeepsWithin (after : Heap) (old new : Store) (places : List Place) (owned : ℕ → Type 0) : Type 0 where
  pub keeps : KeepsPlaces after new places
  pub owns : (k : ℕ) → Owns after new places keeps k → owned k
  pub spares : Spares owned old new

-- Each of these blocks reads as before.
abbrev pub SameBytes : Store → Store → List Place → Type 0
SameBytes old new places = (p : Place) (rest : List Place) → Inserts p rest places → (i : ℕ) → i < room_of p → byte_of new p i ≡ byte_of old p i

-- The heap keeps its places and their bytes, in chunks that it owned.
pub record KeepsStill (heap : Heap) (old new : Store) (places : List Place) (owned : ℕ → Type 0) : Type 0 where
  pub keeps : KeepsPlaces heap new places
  pub owns : (k : ℕ) → Owns heap new places keeps k → owned k
  pub bytes : SameBytes old new places

-- A block of n bytes was made at p.
pub record Allocates (before after : Heap) (old new : Store) (n : ℕ) (p : Place) : Type 0 where
  -- whatever places were in use, p wasn't one of them and is in use beside them now
  pub keeps : (places more : List Place) (k : KeepsPlaces before old places) → Inserts p places more → KeepsNow after old new more (Owns before old places k)
  pub kind : IsFor n p
  pub zero : (i : ℕ) → i < room_of p → byte_of new p i ≡ 0
  pub others : (places : List Place) → KeepsPlaces before old places → SameBytes old new places
  pub paid : new.left + rise before n ≡ old.left
  pub caps : old.caps ≡ plus_caps (rise_caps before n) new.caps
  -- there is a peak for each class
  pub eight : (length (peaks before) ≡ 8) × (length (peaks after) ≡ 8)
  -- each peak is raised to what is in use now
  pub peaks : (places more : List Place) → KeepsPlaces before old places → Inserts p places more → (c : Class)
      → peak_of after c ≡ max (peak_of before c) (count_of c more)
  pub charge : charge after ≡ charge before + rise before n
  pub charge_caps : charge_caps after ≡ charge_caps before + rise_caps before n

-- The block p is free.
pub record Frees (before after : Heap) (old new : Store) (p : Place) : Type 0 where
  pub keeps : (places rest : List Place) (k : KeepsPlaces before old places) → Inserts p rest places → KeepsWithin after old new rest (Owns before old places k)
  pub others : (places rest : List Place) → KeepsPlaces before old places → Inserts p rest places → SameBytes old new rest
  pub paid : new.left ≡ old.left + price_of p
  pub caps : new.caps ≡ plus_caps (caps_of p) old.caps
  pub charge : charge after + price_of p ≡ charge before
  pub charge_caps : charge_caps after + caps_of p ≡ charge_caps before
  pub peaks : peaks after ≡ peaks before

-- These bytes stand in the block p from i on now, and no other byte of a block changed.
pub record PutsInBlock (heap : Heap) (old new : Store) (p : Place) (i : ℕ) (bytes : List ℕ) : Type 0 where
  pub keeps : (places rest : List Place) (k : KeepsPlaces heap old places) → Inserts p rest places → KeepsWithin heap old new places (Owns heap old places k)
  pub put : PutsBytes (byte_of old p) (byte_of new p) i bytes
  pub others : (places rest : List Place) → KeepsPlaces heap old places → Inserts p rest places → SameBytes old new rest
  pub left : new.left ≡ old.left
  pub caps : new.caps ≡ old.caps
