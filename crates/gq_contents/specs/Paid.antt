-- What contents and a heap cost, by the sums of the definition, and what is paid for a call.
use Rattle.std.specs.Prelude.{◌≡◌, ℕ, ◌+◌, ◌<◌, ◌≤◌, ◌↔◌, max, List, [], ◌∷◌, ◌++◌, Bool, false, IsTrue, Some, None, Result, IsErrOf}
use Rattle.gq_tariff.specs.Prices.{classes}
use Rattle.gq_model.specs.machine.Amounts.{Resource, Ram, Caps}
use Rattle.gq_model.specs.machine.Resource_prices.{heap as class_prices}
use Rattle.gq_model.specs.machine.Sums.{slot_price, slot_places}
use Rattle.gq_model.specs.machine.World.{Slot}
use Rattle.gq_store.specs.declared.GrowFault.{GrowFault}
use Rattle.gq_store.specs.declared.GrowFault.TheVariants.{Exceeded, CapsExceeded}
use Rattle.gq_store.specs.Store.{Store, plus_caps}
use Rattle.gq_heap.specs.declared.heap.Heap.{Heap}
use Rattle.gq_heap.specs.Heap.{peaks}
use Rattle.gq_contents.specs.declared.content.Content.{Content}
use Rattle.gq_contents.specs.declared.content.Content.TheVariants.{Empty}
use Rattle.gq_contents.specs.Contents.{added, entry_in, seen, size_of, with_entry}
use Rattle.gq_contents.specs.Contents_invariant.{Changes, KeepsContents}

-- what these contents cost
abbrev pub cost : Resource → Store → List Content → ℕ
cost r st [] = 0
cost r st (t ∷ ts) = slot_price r (seen st t) + cost r st ts

-- what a content and the classes of the heap cost
abbrev pub cost_with : Resource → Heap → Store → Content → ℕ
cost_with r heap st t = slot_price r (seen st t) + class_prices r (peaks heap)

-- What u and the heap cost more than t and the heap did, there is less left to pay, of both kinds.
pub record Pays (before after : Heap) (old new : Store) (t u : Content) : Type 0 where
  pub ram : new.left + cost_with Ram after new u ≡ old.left + cost_with Ram before old t
  pub caps : plus_caps (cost_with Caps after new u) new.caps ≡ plus_caps (cost_with Caps before old t) old.caps

-- how many places of the class of c bytes these contents have in use
abbrev pub places_used : Store → List Content → ℕ → ℕ
places_used st [] c = 0
places_used st (t ∷ ts) c = slot_places c (seen st t) + places_used st ts c

-- the peaks of these classes, none below what is in use
abbrev pub raised_by : (ℕ → ℕ) → List ℕ → List ℕ → List ℕ
raised_by f (c ∷ cs) (p ∷ ps) = max p (f c) ∷ raised_by f cs ps
raised_by f [] ps = []
raised_by f (c ∷ cs) [] = []

-- Whatever else is kept, the peaks are raised to what is in use with u in the place of t.
abbrev pub Raises : Heap → Heap → Store → Store → Content → Content → Type 0
Raises before after old new t u = (prefix back : List Content) → KeepsContents before old (prefix ++ t ∷ back)
    → peaks after ≡ raised_by (places_used new (prefix ++ u ∷ back)) classes (peaks before)

-- A content of n bytes stands where there was none, which reads as this slot: all else that any heap has is kept, and it is paid.
pub record IsMadeBeside (old new : Store) (t : Content) (slot : Slot) (n : ℕ) : Type 0 where
  pub changes : (heap : Heap) → Changes heap heap old new Empty t
  pub reads : seen new t ≡ slot
  pub size : size_of t ≡ n
  pub pays : (heap : Heap) → Pays heap heap old new Empty t

-- the same in a heap, which has more places in use
pub record IsMadeIn (before after : Heap) (old new : Store) (t : Content) (slot : Slot) (n : ℕ) : Type 0 where
  pub changes : Changes before after old new Empty t
  pub reads : seen new t ≡ slot
  pub size : size_of t ≡ n
  pub pays : Pays before after old new Empty t
  pub raises : Raises before after old new Empty t

-- An entry of a pool is there, which reads 0 if it is added: it is, where it was not there.
pub record TakesEntry (before after : Heap) (old new : Store) (t : Content) (i : ℕ) (adds : Bool) : Type 0 where
  pub changes : Changes before after old new t t
  pub reads : seen new t ≡ with_entry i added (seen old t)
  pub fresh : IsTrue adds ↔ (entry_in i (seen old t) ≡ None)
  pub pays : Pays before after old new t t
  pub raises : entry_in i (seen old t) ≡ None → Raises before after old new t t
  pub there : adds ≡ false → (after ≡ before) × (new ≡ old)

-- So many bytes, and a capability, are paid where they are left: refused as `Exceeded` where fewer bytes are, else as `CapsExceeded` where no capability is.
pub record IsPaidWhereLeft {A : Type 0} (old : Store) (n : ℕ) (r : Result A GrowFault) : Type 0 where
  pub exceeded : IsErrOf r Exceeded ↔ (old.left < n)
  pub none : IsErrOf r CapsExceeded ↔ ((n ≤ old.left) × (old.caps ≡ Some 0))

-- the same of the price of a heap, which may not rise
pub record IsRaisedWhereLeft {A : Type 0} (old : Store) (n : ℕ) (r : Result A GrowFault) : Type 0 where
  pub exceeded : IsErrOf r Exceeded ↔ (old.left < n)
  pub none : IsErrOf r CapsExceeded ↔ ((0 < n) × (n ≤ old.left) × (old.caps ≡ Some 0))
