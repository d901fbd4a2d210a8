-- What heap, store and all contents of an account keep together, and what a call on one content leaves of the others.
use Rattle.std.specs.Prelude.{◌≡◌, ℕ, ◌<◌, ◌≤◌, List, [], ◌∷◌, ◌++◌}
use Rattle.gq_store.specs.Store.{Store}
use Rattle.gq_heap.specs.declared.heap.Heap.{Heap}
use Rattle.gq_heap.specs.declared.heap.Place.{Place}
use Rattle.gq_heap.specs.List_occurrences.{times}
use Rattle.gq_heap.specs.Heap.{Owns, KeepsPlaces}
use Rattle.gq_contents.specs.declared.content.Content.{Content}
use Rattle.gq_contents.specs.Contents.{seen, chunks, places, IsContent}

abbrev pub all_chunks : List Content → List ℕ
all_chunks [] = []
all_chunks (t ∷ ts) = chunks t ++ all_chunks ts

abbrev pub all_places : Store → List Content → List Place
all_places st [] = []
all_places st (t ∷ ts) = places st t ++ all_places st ts

abbrev pub AreContents : Store → List Content → Type 0
AreContents st [] = Unit {0}
AreContents st (t ∷ ts) = IsContent st t × AreContents st ts

-- the heap keeps these places, in other chunks than these
pub record Blocks (heap : Heap) (st : Store) (ps : List Place) (cs : List ℕ) : Type 0 where
  pub keeps : KeepsPlaces heap st ps
  pub apart : (x : ℕ) → 0 < times x cs → Owns heap st ps keeps x → ⊥

-- Heap and store keep these contents and no other: their chunks are apart, and the places of the heap are theirs.
pub record KeepsContents (heap : Heap) (st : Store) (contents : List Content) : Type 0 where
  pub each : AreContents st contents
  pub blocks : Blocks heap st (all_places st contents) (all_chunks contents)
  pub once : (x : ℕ) → times x (all_chunks contents) ≤ 1

-- They keep this one among others.
pub record IsAmong (heap : Heap) (st : Store) (t : Content) : Type 0 where
  pub prefix : List Content
  pub back : List Content
  pub keeps : KeepsContents heap st (prefix ++ t ∷ back)

-- each of these contents reads as before
abbrev pub SameSeen : Store → Store → List Content → Type 0
SameSeen old new [] = Unit {0}
SameSeen old new (t ∷ ts) = (seen new t ≡ seen old t) × SameSeen old new ts

-- They keep u beside these others now, which read as before.
pub record KeepsBeside (after : Heap) (old new : Store) (prefix : List Content) (u : Content) (back : List Content) : Type 0 where
  pub keeps : KeepsContents after new (prefix ++ u ∷ back)
  pub prefix_seen : SameSeen old new prefix
  pub back_seen : SameSeen old new back

-- In the place of t they keep u, and all others read as before.
abbrev pub Changes : Heap → Heap → Store → Store → Content → Content → Type 0
Changes before after old new t u = (prefix back : List Content) → KeepsContents before old (prefix ++ t ∷ back) → KeepsBeside after old new prefix u back
