-- What holds in all slots between two calls.
use Rattle.std.specs.Prelude.{◌≡◌, ℕ, ◌+◌, ◌<◌, nat_eq, if◌then◌else◌, List, [], ◌∷◌, ◌++◌, length, get_or, Option, Some, None}
use Rattle.gq_tariff.specs.Prices.{classes}
use Rattle.gq_model.specs.machine.Amounts.{Resource, Ram, Caps}
use Rattle.gq_model.specs.machine.Resource_prices.{heap as class_prices}
use Rattle.gq_store.specs.Store.{plus_caps}
use Rattle.gq_heap.specs.declared.heap.Heap.{Heap}
use Rattle.gq_heap.specs.Heap.{peaks}
use Rattle.gq_contents.specs.declared.content.Content.{Content}
use Rattle.gq_contents.specs.Contents_invariant.{KeepsContents}
use Rattle.gq_contents.specs.Paid.{cost, places_used, raised_by}
use Rattle.gq_trade.specs.declared.session.Session.{Session}
use Rattle.gq_trade.specs.Trading.{its_account}
use Rattle.gq_slots.specs.Slots.{Slots, memory_of}
pub use Rattle.gq_slots.specs.Slots.{AreLong, AreObjects, AreSound, AreUnmade, IsObject, IsUnmade}

-- WHAT A LEAF PAYS FOR

abbrev pub contents_of : ℕ → Session → List Content
contents_of x s = if nat_eq s.server x then s.object ∷ s.slots else []

-- what the sessions to the leaf x hold
abbrev pub session_contents : ℕ → List (Option Session) → List Content
session_contents x [] = []
session_contents x (None ∷ ss) = session_contents x ss
session_contents x (Some s ∷ ss) = contents_of x s ++ session_contents x ss

-- all that the leaf x pays for: its own slots, and the sessions to it
abbrev pub contents : Slots → ℕ → List Content
contents s x = get_or s.own x [] ++ session_contents x s.trades.trading.sessions

-- what that costs, with the classes of its heap
abbrev pub held_by : Resource → Slots → ℕ → Heap → ℕ
held_by r s x h = cost r (memory_of s x) (contents s x) + class_prices r (peaks h)

-- WHAT HOLDS

-- n capabilities where they are counted
abbrev pub counted : ℕ → ℕ → Option ℕ
counted price n = if nat_eq price 0 then None else Some n

-- The leaf x with this heap: its memory has what its slots and those of the sessions to it hold and no more; what it has left and what it holds are
-- its quota, of both kinds; and no more of its heap is in use than its peaks say.
pub record IsHolder (s : Slots) (x : ℕ) (h : Heap) : Type 0 where
  pub keeps : KeepsContents h (memory_of s x) (contents s x)
  pub ram : (memory_of s x).left + held_by Ram s x h ≡ (its_account s.trades.trading x).quota.ram
  pub caps : plus_caps (held_by Caps s x h) (memory_of s x).caps ≡ counted s.trades.trading.ledger.price (its_account s.trades.trading x).quota.caps
  pub peaked : raised_by (places_used (memory_of s x) (contents s x)) classes (peaks h) ≡ peaks h
  -- there is a peak for each class
  pub eight : length (peaks h) ≡ 8

pub record IsSlots (s : Slots) : Type 0 where
  pub count : length s.own ≡ length s.trades.trading.leaves
  pub heaps : length s.heaps ≡ length s.trades.trading.leaves
  pub long : AreLong s
  pub sound : AreSound s.trades.trading
  pub holders : (x : ℕ) (h : Heap) → x < length s.own → IsHolder s x (get_or s.heaps x h)
