-- What lies at an address of a leaf: each of its 64 slots has a window of 2 ^ 26 addresses, one behind the other.
use Rattle.std.specs.Prelude.{◌≡◌, ℕ, ◌+◌, ◌<◌, ◌≤◌, ◌/◌, ◌%◌, nat_le, if◌then◌else◌, List, [], length, slice_range, Option}
use Rattle.std.specs.Prelude.{Some, None}
use Rattle.gq_model.specs.declared.program.Width.{Width}
use Rattle.gq_model.specs.machine.Program.{bytes_of, little}
use Rattle.gq_model.specs.machine.Scenario.{System}
use Rattle.gq_model.specs.machine.Memory.{bytes_slot_id}
use Rattle.gq_model.specs.machine.World as world
use Rattle.gq_store.specs.declared.extent.Extent.{Extent}
use Rattle.gq_contents.specs.Contents.{bytes_in, extent_of, put_in, size_of}
use Rattle.gq_trade.specs.declared.session.SlotId.{SlotId}
use Rattle.gq_trade.specs.declared.session.SlotId.TheVariants.{InLeaf}
use Rattle.gq_trade.specs.Seen_sessions.{slot_id_seen}
use Rattle.gq_slots.specs.Slots.{IsSlotId, Slots, slot_of, content_at}
use Rattle.gq_slots.specs.Slot_addresses.{place_of}

-- WHAT LIES AT AN ADDRESS

-- the slot of the leaf x in whose window the address a is: each window has 2 ^ 26 addresses, the most bytes that a slot can have
abbrev pub slot_under : ℕ → ℕ → SlotId
slot_under x a = InLeaf x (a / 67108864)

-- how far the address a is in its window
abbrev pub offset : ℕ → ℕ
offset a = a % 67108864

-- the index i of a slot, where n bytes stand in it from there on
abbrev pub within : Slots → ℕ → ℕ → Option SlotId → Option (SlotId × ℕ)
within s i n None = None
within s i n (Some p) = if nat_le (i + n) (size_of (content_at s p)) then Some (p, i) else None

-- where the n bytes from the address a of the leaf x on stand: the slot, and the index in it
abbrev pub bytes_at : List ℕ → Slots → ℕ → ℕ → ℕ → Option (SlotId × ℕ)
bytes_at bs s x a n = within s (offset a) n (place_of bs s (slot_under x a))

-- the byte that stands there, or the number in the four bytes from there on
abbrev pub number_of : Slots → Width → Option (SlotId × ℕ) → Option ℕ
number_of s width None = None
number_of s width (Some f) = Some (little (slice_range (bytes_in (slot_of s f.0)) f.1 (f.1 + bytes_of width)))

-- the byte or the number from i on, where there are so many bytes
abbrev pub number_in : List ℕ → Width → ℕ → Option ℕ
number_in bytes width i = if nat_le (i + bytes_of width) (length bytes) then Some (little (slice_range bytes i (i + bytes_of width))) else None

-- the bytes that stand at a place lie there, from an index on
pub record LiesAt (s : Slots) (place : Option (SlotId × ℕ)) (e : Extent) (i : ℕ) : Type 0 where
  pub slot_id : SlotId
  pub place_is : place ≡ Some (slot_id, i)
  pub there : IsSlotId s slot_id
  pub is : extent_of (content_at s slot_id) ≡ Some e

-- It is where the bytes of a place lie, or there is no such place.
abbrev pub Lies : Slots → Option (SlotId × ℕ) → Option (Extent × ℕ) → Type 0
Lies s place None = place ≡ None
Lies s place (Some f) = LiesAt s place f.0 f.1

-- IN THE MACHINE'S WORLD

abbrev pub bytes_seen : Option world.Slot → List ℕ
bytes_seen None = []
bytes_seen (Some slot) = bytes_in slot

abbrev pub bytes_there : world.World → Option world.SlotId → List ℕ
bytes_there w None = []
bytes_there w (Some p) = bytes_seen (world.slot_at w p)

-- the bytes behind a slot: none where it is none of memory, or a link to a session without a buffer
abbrev pub bytes_behind : System → world.World → world.SlotId → List ℕ
bytes_behind system w p = bytes_there w (bytes_slot_id system w (world.slot_at w p) p)

-- those behind the slot of the leaf x in whose window the address a is
abbrev pub bytes_under : System → world.World → ℕ → ℕ → List ℕ
bytes_under system w x a = bytes_behind system w (slot_id_seen (slot_under x a))

-- the n bytes behind the slot p from i on are those of the slot q from j on
pub record AreThere (system : System) (w : world.World) (s : Slots) (p : SlotId) (i n : ℕ) (q : SlotId) (j : ℕ) : Type 0 where
  pub place : bytes_slot_id system w (world.slot_at w (slot_id_seen p)) (slot_id_seen p) ≡ Some (slot_id_seen q)
  pub slot : world.slot_at w (slot_id_seen q) ≡ Some (slot_of s q)
  pub index : j ≡ i
  pub long : i + n ≤ length (bytes_in (slot_of s q))

-- they are where it says, or are not there
abbrev pub AreFound : System → world.World → Slots → SlotId → ℕ → ℕ → Option (SlotId × ℕ) → Type 0
AreFound system w s p i n None = length (bytes_behind system w (slot_id_seen p)) < i + n
AreFound system w s p i n (Some f) = AreThere system w s p i n f.0 f.1

-- a world with other bytes behind a slot from i on
abbrev pub put_slot : world.World → world.SlotId → ℕ → List ℕ → Option world.Slot → world.World
put_slot w p i bs None = w
put_slot w p i bs (Some slot) = world.with_slot w p (put_in i bs slot)

abbrev pub put_there : world.World → ℕ → List ℕ → Option world.SlotId → world.World
put_there w i bs None = w
put_there w i bs (Some p) = put_slot w p i bs (world.slot_at w p)

abbrev pub put_behind : System → world.World → world.SlotId → ℕ → List ℕ → world.World
put_behind system w p i bs = put_there w i bs (bytes_slot_id system w (world.slot_at w p) p)

-- a world with other bytes from the address a of the leaf x on
abbrev pub put_under : System → world.World → ℕ → ℕ → List ℕ → world.World
put_under system w x a bs = put_behind system w (slot_id_seen (slot_under x a)) (offset a) bs
