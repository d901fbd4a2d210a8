-- What a slot holds, and the slot that it stands for.
use Rattle.std.specs.Prelude.{◌≡◌, ℕ, ◌+◌, ◌≤◌, List, [], ◌∷◌, ◌++◌, length, take, drop, replicate, get_or, slice_set, Option, Some, None}
use Rattle.gq_tariff.specs.Prices.{up}
use Rattle.gq_model.specs.declared.program.Form.TheVariants as form
use Rattle.gq_model.specs.machine.World as world
use Rattle.gq_store.specs.declared.extent.Extent.{Extent}
use Rattle.gq_store.specs.Store.{Store}
use Rattle.gq_store.specs.Chunk_bytes.{listed}
use Rattle.gq_heap.specs.declared.heap.Place.{Place}
use Rattle.gq_heap.specs.Heap.{IsFor, chunk_of, offset_of, room_of, block_bytes}
use Rattle.gq_sliced.specs.Slices.{HasSize, slice_bytes}
use Rattle.gq_pool.specs.Pools.{IsTable, places_of, held_of, entries_of}
use Rattle.gq_contents.specs.declared.content.Content.{Content}
use Rattle.gq_contents.specs.declared.content.Content.TheVariants.{Empty, Block, Slice, Space, Pool, Link, Waiting}

-- the bytes of a space of n bytes: those of its whole pages
abbrev pub space_bytes : Store → ℕ → ℕ → List ℕ
space_bytes st k n = listed (up n) (st.byte k)

-- the slot that it stands for
abbrev pub seen : Store → Content → world.Slot
seen st Empty = world.Empty
seen st (Block p n) = world.Bytes form.Block n (block_bytes st p n)
seen st (Slice k n) = world.Bytes form.Slice n (slice_bytes st k n)
seen st (Space k n) = world.Bytes form.Space n (space_bytes st k n)
seen st (Pool p) = world.Pool p.size (entries_of p st)
seen st (Link k) = world.Link k
seen st (Waiting k) = world.Waiting k

-- the chunk that it has for itself, if it has one
abbrev pub chunks : Content → List ℕ
chunks Empty = []
chunks (Block p n) = []
chunks (Slice k n) = k ∷ []
chunks (Space k n) = k ∷ []
chunks (Pool p) = p.table ∷ []
chunks (Link k) = []
chunks (Waiting k) = []

-- the places of the heap that it has
abbrev pub places : Store → Content → List Place
places st Empty = []
places st (Block p n) = p ∷ []
places st (Slice k n) = []
places st (Space k n) = []
places st (Pool p) = places_of p.class (held_of p st)
places st (Link k) = []
places st (Waiting k) = []

-- the chunk k is a space of n bytes
pub record IsSpace (st : Store) (k n : ℕ) : Type 0 where
  pub pages : st.size k ≡ up n
  pub some : 1 ≤ n
  pub small : n ≤ 67108864

-- the store has it as it says
abbrev pub IsContent : Store → Content → Type 0
IsContent st Empty = Unit {0}
IsContent st (Block p n) = IsFor n p × (n ≤ room_of p)
IsContent st (Slice k n) = HasSize st k n
IsContent st (Space k n) = IsSpace st k n
IsContent st (Pool p) = IsTable p st (held_of p st)
IsContent st (Link k) = Unit {0}
IsContent st (Waiting k) = Unit {0}

-- it is a slice, and the store has it
abbrev pub IsSlice : Store → Content → Type 0
IsSlice st Empty = ⊥
IsSlice st (Block p n) = ⊥
IsSlice st (Slice k n) = HasSize st k n
IsSlice st (Space k n) = ⊥
IsSlice st (Pool p) = ⊥
IsSlice st (Link k) = ⊥
IsSlice st (Waiting k) = ⊥

-- how many bytes it has that can be read and written
abbrev pub size_of : Content → ℕ
size_of Empty = 0
size_of (Block p n) = n
size_of (Slice k n) = n
size_of (Space k n) = up n
size_of (Pool p) = 0
size_of (Link k) = 0
size_of (Waiting k) = 0

-- where these bytes lie
abbrev pub extent_of : Content → Option Extent
extent_of Empty = None
extent_of (Block p n) = Some (record { chunk = chunk_of p; start = offset_of p; length = n })
extent_of (Slice k n) = Some (record { chunk = k; start = 32; length = n })
extent_of (Space k n) = Some (record { chunk = k; start = 0; length = up n })
extent_of (Pool p) = None
extent_of (Link k) = None
extent_of (Waiting k) = None

-- how many entries it has, and of how many bytes
abbrev pub entry_count : Content → ℕ
entry_count Empty = 0
entry_count (Block p n) = 0
entry_count (Slice k n) = 0
entry_count (Space k n) = 0
entry_count (Pool p) = p.count
entry_count (Link k) = 0
entry_count (Waiting k) = 0

abbrev pub entry_size : Content → ℕ
entry_size Empty = 0
entry_size (Block p n) = 0
entry_size (Slice k n) = 0
entry_size (Space k n) = 0
entry_size (Pool p) = p.size
entry_size (Link k) = 0
entry_size (Waiting k) = 0

-- the bytes of an entry and how many entries it has, if it is a pool
abbrev pub shape_of : Content → Option (ℕ × ℕ)
shape_of Empty = None
shape_of (Block p n) = None
shape_of (Slice k n) = None
shape_of (Space k n) = None
shape_of (Pool p) = Some (p.size, p.count)
shape_of (Link k) = None
shape_of (Waiting k) = None

-- SLOTS

-- the bytes of a slot, or none
abbrev pub bytes_in : world.Slot → List ℕ
bytes_in world.Empty = []
bytes_in (world.Bytes f n bytes) = bytes
bytes_in (world.Pool n entries) = []
bytes_in (world.Link k) = []
bytes_in (world.Waiting k) = []

-- a slot with these bytes from i on
abbrev pub put_in : ℕ → List ℕ → world.Slot → world.Slot
put_in i bs world.Empty = world.Empty
put_in i bs (world.Bytes f n bytes) = world.Bytes f n (take i bytes ++ bs ++ drop (i + length bs) bytes)
put_in i bs (world.Pool n entries) = world.Pool n entries
put_in i bs (world.Link k) = world.Link k
put_in i bs (world.Waiting k) = world.Waiting k

-- the entry i of a pool
abbrev pub entry_in : ℕ → world.Slot → Option (List ℕ)
entry_in i world.Empty = None
entry_in i (world.Bytes f n bytes) = None
entry_in i (world.Pool n entries) = get_or entries i None
entry_in i (world.Link k) = None
entry_in i (world.Waiting k) = None

-- a pool with another entry i, by the size of its entries and by what the entry was
abbrev pub with_entry : ℕ → (ℕ → Option (List ℕ) → Option (List ℕ)) → world.Slot → world.Slot
with_entry i f world.Empty = world.Empty
with_entry i f (world.Bytes g n bytes) = world.Bytes g n bytes
with_entry i f (world.Pool n entries) = world.Pool n (slice_set entries i (f n (get_or entries i None)))
with_entry i f (world.Link k) = world.Link k
with_entry i f (world.Waiting k) = world.Waiting k

-- an entry of n bytes that is there: a new one reads 0
abbrev pub added : ℕ → Option (List ℕ) → Option (List ℕ)
added n None = Some (replicate n 0)
added n (Some bytes) = Some bytes

-- an entry that is absent
abbrev pub removed : ℕ → Option (List ℕ) → Option (List ℕ)
removed n entry = None
