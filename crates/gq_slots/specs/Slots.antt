-- What every slot of a scenario holds, those of its leaves and those of its sessions, as the abstract machine has it.
use Rattle.std.specs.Prelude.{◌≡◌, ℕ, suc, ◌+◌, ◌<◌, ◌≤◌, ◌==◌, if◌then◌else◌, List, [], ◌∷◌, length, map, get_or, replicate, slice_get, Option, Some, None}
use Rattle.gq_tariff.specs.Prices.{classes, size_for}
use Rattle.gq_model.specs.machine.Amounts.{Resource, Ram, Caps}
use Rattle.gq_model.specs.machine.Resource_prices.{heap as class_prices}
use Rattle.gq_model.specs.machine.World as world
use Rattle.gq_model.specs.machine.Sums.{held, places, with_peaks}
use Rattle.gq_store.specs.declared.extent.Extent.{Extent}
use Rattle.gq_store.specs.Store.{Store}
use Rattle.gq_heap.specs.declared.heap.Heap.{Heap}
use Rattle.gq_heap.specs.Heap.{KeepsPlaces, peaks, rise, rise_caps}
use Rattle.gq_trade.specs.Numbers.{IsTaken}
use Rattle.gq_trade.specs.declared.requests.Ask.{Ask}
use Rattle.gq_trade.specs.declared.requests.Ask.TheVariants as ask
use Rattle.gq_trade.specs.declared.requests.Request.{Request}
use Rattle.gq_trade.specs.Seen_requests.{request_seen}
use Rattle.gq_contents.specs.declared.content.Content.{Content}
use Rattle.gq_contents.specs.declared.content.Content.TheVariants.{Empty, Block, Slice, Space, Pool, Link, Waiting}
use Rattle.gq_contents.specs.Contents.{entry_size, extent_of, seen}
use Rattle.gq_contents.specs.Paid.{raised_by}
use Rattle.gq_trade.specs.declared.session.SlotId.{SlotId}
use Rattle.gq_trade.specs.declared.session.SlotId.TheVariants.{InLeaf, InSession, InObject}
use Rattle.gq_trade.specs.Seen_sessions.{sessions_seen, slot_id_seen}
use Rattle.gq_trade.specs.declared.session.Session.{Session}
use Rattle.gq_trade.specs.Trading.{Trading, session_at, session_in, server_of, store_of, its_account}
use Rattle.gq_trade.specs.Trades.{Trades}

-- sessions over accounts, and of each leaf its own slots and its heap
pub record Slots : Type 0 where
  pub trades : Trades
  pub own : List (List Content)
  pub heaps : List Heap

abbrev pub trading_of : Slots → Trading
trading_of s = s.trades.trading

-- the memory that the leaf x pays for
abbrev pub memory_of : Slots → ℕ → Store
memory_of s x = store_of s.trades.trading x

-- WHERE A SLOT STANDS

-- there is such a slot
abbrev pub IsSlotId : Slots → SlotId → Type 0
IsSlotId s (InLeaf x i) = (x < length s.own) × (i < 64)
IsSlotId s (InSession k i) = IsTaken s.trades.trading.sessions k × (i < 8)
IsSlotId s (InObject k) = IsTaken s.trades.trading.sessions k

-- it is a leaf's own slot or one of a session, and no session's object
abbrev pub IsSlot : SlotId → Type 0
IsSlot (InLeaf x i) = Unit {0}
IsSlot (InSession k i) = Unit {0}
IsSlot (InObject k) = ⊥

-- the leaf that pays for what is there: a session's slots and its object are its server's
abbrev pub holder : Slots → SlotId → ℕ
holder s (InLeaf x i) = x
holder s (InSession k i) = server_of s.trades.trading k
holder s (InObject k) = server_of s.trades.trading k

abbrev pub content_at : Slots → SlotId → Content
content_at s (InLeaf x i) = get_or (get_or s.own x []) i Empty
content_at s (InSession k i) = get_or (session_at s.trades.trading k).slots i Empty
content_at s (InObject k) = (session_at s.trades.trading k).object

-- the slot of the abstract machine that it stands for
abbrev pub slot_of : Slots → SlotId → world.Slot
slot_of s p = seen (memory_of s (holder s p)) (content_at s p)

-- the bytes of some slot lie there
pub record IsExtent (s : Slots) (e : Extent) : Type 0 where
  pub slot_id : SlotId
  pub there : IsSlotId s slot_id
  pub is : extent_of (content_at s slot_id) ≡ Some e

-- it holds no memory
abbrev pub IsMark : Content → Type 0
IsMark Empty = Unit {0}
IsMark (Block p n) = ⊥
IsMark (Slice k n) = ⊥
IsMark (Space k n) = ⊥
IsMark (Pool p) = ⊥
IsMark (Link k) = Unit {0}
IsMark (Waiting k) = Unit {0}

-- something can be made in a slot: it is there and empty
pub record CanMake (s : Slots) (p : SlotId) : Type 0 where
  pub slot : IsSlot p
  pub there : IsSlotId s p
  pub empty : content_at s p ≡ Empty

-- this is the heap of the leaf x
abbrev pub IsHeapOf : Slots → ℕ → Heap → Type 0
IsHeapOf s x h = get_or s.heaps x h ≡ h

-- THE WORLD

-- what the memory does not say of a world: the names of the services, and of each leaf its phase, registers and statements
pub record Frame : Type 0 where
  pub names : List (List ℕ)
  pub leaf : ℕ → world.Leaf

-- a leaf with these slots, and with the peaks of its heap
abbrev pub leaf_seen : world.Leaf → Store → List Content → Heap → world.Leaf
leaf_seen leaf st ts h = record leaf { slots = map (seen st) ts; peaks = peaks h }

-- all leaves from the first on
abbrev pub leaves_seen : (ℕ → world.Leaf) → (ℕ → Store) → List (List Content) → List Heap → List world.Leaf
leaves_seen leaf st [] hs = []
leaves_seen leaf st (ts ∷ own) [] = []
leaves_seen leaf st (ts ∷ own) (h ∷ hs) = leaf_seen (leaf 0) (st 0) ts h ∷ leaves_seen (λ x. leaf (suc x)) (λ x. st (suc x)) own hs

abbrev pub world_seen : Frame → Slots → world.World
world_seen f s = record {
  leaves = leaves_seen f.leaf (memory_of s) s.own s.heaps;
  sessions = sessions_seen f.names s.trades.trading;
  requests = map request_seen s.trades.trading.requests;
}

-- PEAKS

-- the peaks of the leaf x are raised to what is in use
abbrev pub raised_in : world.World → ℕ → Option world.Leaf → world.World
raised_in w x None = w
raised_in w x (Some leaf) = world.with_leaf w x (with_peaks w x leaf)

abbrev pub settled_in : ℕ → world.World → world.World
settled_in x w = raised_in w x (slice_get w.leaves x)

-- WHAT IS IN USE

-- What the leaf x uses is what the definition says that it holds: bytes, and capabilities where they are counted. Its peaks are no less than what is in
-- use.
pub record IsPaidFor (w : world.World) (t : Trading) (x : ℕ) (leaf : world.Leaf) : Type 0 where
  pub ram : (its_account t x).used.ram ≡ held Ram w x leaf
  pub caps : (t.ledger.price ≡ 0 → ⊥) → (its_account t x).used.caps ≡ held Caps w x leaf
  pub peaked : with_peaks w x leaf ≡ leaf

abbrev pub ArePaidFor : Slots → Type 0
ArePaidFor s = (f : Frame) (x : ℕ) (leaf : world.Leaf) → slice_get (world_seen f s).leaves x ≡ Some leaf → IsPaidFor (world_seen f s) s.trades.trading x leaf

-- WHAT STANDS WHERE

-- each slot reads in the machine's world as what is in it
abbrev pub AreRead : Slots → Type 0
AreRead s = (f : Frame) (p : SlotId) → IsSlotId s p → world.slot_at (world_seen f s) (slot_id_seen p) ≡ Some (slot_of s p)

-- each leaf has 64 slots, and each session 8
pub record AreLong (s : Slots) : Type 0 where
  pub own : (x : ℕ) → x < length s.own → length (get_or s.own x []) ≡ 64
  pub slots : (k : ℕ) → IsTaken s.trades.trading.sessions k → length (session_at s.trades.trading k).slots ≡ 8

-- an object is a slice, once it is there
abbrev pub IsObject : Content → Type 0
IsObject Empty = Unit {0}
IsObject (Block p n) = ⊥
IsObject (Slice k n) = Unit {0}
IsObject (Space k n) = ⊥
IsObject (Pool p) = ⊥
IsObject (Link k) = ⊥
IsObject (Waiting k) = ⊥

abbrev pub AreObjects : List (Option Session) → Type 0
AreObjects [] = Unit {0}
AreObjects (None ∷ ss) = AreObjects ss
AreObjects (Some s ∷ ss) = IsObject s.object × AreObjects ss

-- of a session whose request to open waits there is no object yet
abbrev pub IsUnmade : Ask → Content → Type 0
IsUnmade ask.Open t = t ≡ Empty
IsUnmade ask.Upgrade t = Unit {0}
IsUnmade ask.Close t = Unit {0}
IsUnmade (ask.Call n) t = Unit {0}

abbrev pub AreUnmade : List (Option Session) → List Request → Type 0
AreUnmade ss [] = Unit {0}
AreUnmade ss (r ∷ rs) = IsUnmade r.ask (session_in ss r.session).object × AreUnmade ss rs

pub record AreSound (w : Trading) : Type 0 where
  pub objects : AreObjects w.sessions
  pub unmade : AreUnmade w.sessions w.requests

-- WHAT ONE PLACE MORE COSTS

-- places in use of each class, with one more of the class of a block of n bytes
abbrev pub one_more_of : ℕ → (ℕ → ℕ) → ℕ → ℕ
one_more_of n f c = f c + (if size_for n == c then 1 else 0)

-- how much the price of a heap rises by such a block, of each kind
abbrev pub rise_of : Resource → Heap → ℕ → ℕ
rise_of Ram h n = rise h n
rise_of Caps h n = rise_caps h n

-- With one place more in use of the class of n bytes, the classes of a leaf's heap cost so much more, by the peaks that are raised to that.
abbrev pub AreRises : Slots → Type 0
AreRises s = (r : Resource) (f : Frame) (x : ℕ) (h : Heap) (leaf : world.Leaf) (n : ℕ) → IsHeapOf s x h → slice_get (world_seen f s).leaves x ≡ Some leaf
    → n ≤ 2048 → class_prices r (raised_by (one_more_of n (places (world_seen f s) x leaf)) classes leaf.peaks) ≡ class_prices r leaf.peaks + rise_of r h n

-- an entry of a pool is a place of a class: it has at most 2048 bytes
abbrev pub AreSmallEntries : Slots → Type 0
AreSmallEntries s = (p : SlotId) → IsSlotId s p → entry_size (content_at s p) ≤ 2048

-- AT FIRST

-- a heap without a block, whose peaks are 0
pub record IsNew (h : Heap) : Type 0 where
  pub keeps : (st : Store) → KeepsPlaces h st []
  pub peaks : peaks h ≡ replicate 8 0

-- n heaps without a block
pub record AreNew (n : ℕ) (hs : List Heap) : Type 0 where
  pub count : length hs ≡ n
  pub each : (x : ℕ) (h : Heap) → x < n → IsNew (get_or hs x h)
