-- For callers: what the calls leave of places in use, and what another's calls leave of a heap.
use Rattle.std.proofs.Common.{◌≡◌, ℕ, ◌+◌, ◌<◌, inl, inr, List, [], ◌∷◌, ◌++◌, append_assoc, Result, Ok, Err, refl, sym, ap, subst, ◌∙◌, arith}
use Rattle.std.specs.Prelude.{IfOk, OnErr}
use Rattle.gq_store.specs.Store.{Store, SameChunk, AreThere}
use Rattle.gq_store.specs.declared.GrowFault.{GrowFault}
use Rattle.gq_heap.specs.declared.heap.Heap.{Heap}
use Rattle.gq_heap.specs.declared.heap.Place.{Place}
use Rattle.gq_heap.specs.Heap.{KeepsPlaces, Owns, Inserts, IsHeap, IsInUse, AreInUse, KeepsStill, Allocates, Frees, PutsInBlock, chunk_of, offset_of, room_of}
use Rattle.gq_heap.specs.declared.heap.Place.TheVariants.{Small, Large}
use Rattle.gq_heap.specs.Classes.{index_of}
use Rattle.gq_heap.proofs.ClassLaws.{sizes, index_below}
use Rattle.gq_heap.proofs.Heap_cell_lists.{large_exists, large_at}
use Rattle.gq_heap.proofs.Heap_call_invariants.{frame_heap}
use Rattle.gq_heap.proofs.Heap_call_effects.{block_owned}

-- a place that was made is in use
pub in_use_now : (before after : Heap) (old new : Store) (n : ℕ) (p : Place) → IsHeap before old → Allocates before after old new n p → IsInUse after new p
in_use_now before after old new n p h a = record {
  places = p ∷ h.places;
  rest = h.places;
  keeps = (a.keeps h.places (p ∷ h.places) h.keeps ([], h.places, refl, refl)).keeps;
  has = ([], h.places, refl, refl);
}

pub heap_of_place : (heap : Heap) (st : Store) (p : Place) → IsInUse heap st p → IsHeap heap st
heap_of_place heap st p u = record { places = u.places; keeps = u.keeps }

-- whatever `alloc` answers, there is a heap
pub heap_now : (r : Result Place GrowFault) (before after : Heap) (old new : Store) (n : ℕ) → IsHeap before old
    → IfOk r (λ p. Allocates before after old new n p) → OnErr r ((after ≡ before) × (new ≡ old)) → IsHeap after new
heap_now (Ok p) before after old new n h a e = heap_of_place after new p (in_use_now before after old new n p h a)
heap_now (Err f) before after old new n h a e = subst (λ st. IsHeap after st) (sym e.1) (subst (λ u. IsHeap u old) (sym e.0) h)

pub used_now : (r : Result Place GrowFault) (before after : Heap) (old new : Store) (n : ℕ) → IsHeap before old
    → IfOk r (λ p. Allocates before after old new n p) → IfOk r (λ p. IsInUse after new p)
used_now (Ok p) before after old new n h a = in_use_now before after old new n p h a
used_now (Err f) before after old new n h a = a

pub heap_after : (before after : Heap) (old new : Store) (p : Place) → IsInUse before old p → Frees before after old new p → IsHeap after new
heap_after before after old new p u f = record { places = u.rest; keeps = (f.keeps u.places u.rest u.keeps u.has).keeps }

pub in_use_still : (heap : Heap) (old new : Store) (p : Place) (i : ℕ) (bytes : List ℕ) → IsInUse heap old p → PutsInBlock heap old new p i bytes
    → IsInUse heap new p
in_use_still heap old new p i bytes u s = record { places = u.places; rest = u.rest; keeps = (s.keeps u.places u.rest u.keeps u.has).keeps; has = u.has }

-- a place in use has a byte
pub room_there : (heap : Heap) (st : Store) (p : Place) → IsInUse heap st p → 0 < room_of p
room_there heap st (Small c q) u = let s = sizes (index_of c) (index_below c) in omega (arith, s.least)
room_there heap st (Large k n) u = let l = large_at st k n u.rest u.places u.has u.keeps.large in omega (arith, l.1)

-- ---- several places in use
pub inserts_among : (p : Place) (rest places others : List Place) → Inserts p rest places → Inserts p (rest ++ others) (places ++ others)
inserts_among p rest places others ins = (
  ins.0,
  ins.1 ++ others,
  ap (λ ps. ps ++ others) ins.2 ∙ append_assoc ins.0 ins.1 others,
  ap (λ ps. ps ++ others) ins.3 ∙ append_assoc ins.0 (p ∷ ins.1)
      others,
)

pub none_in_use : (heap : Heap) (st : Store) → IsHeap heap st → AreInUse heap st []
none_in_use heap st h = record { others = h.places; keeps = h.keeps }

pub heap_of_places : (heap : Heap) (st : Store) (places : List Place) → AreInUse heap st places → IsHeap heap st
heap_of_places heap st places u = record { places = places ++ u.others; keeps = u.keeps }

pub one_in_use : (heap : Heap) (st : Store) (p : Place) (rest places : List Place) → AreInUse heap st places → Inserts p rest places → IsInUse heap st p
one_in_use heap st p rest places u ins =
    record { places = places ++ u.others; rest = rest ++ u.others; keeps = u.keeps; has = inserts_among p rest places u.others ins }

pub more_in_use : (before after : Heap) (old new : Store) (n : ℕ) (p : Place) (places : List Place) → AreInUse before old places
    → Allocates before after old new n p → AreInUse after new (p ∷ places)
more_in_use before after old new n p places u a =
    record { others = u.others; keeps = (a.keeps (places ++ u.others) (p ∷ places ++ u.others) u.keeps ([], places ++ u.others, refl, refl)).keeps }

pub fewer_in_use : (before after : Heap) (old new : Store) (p : Place) (rest places : List Place) → AreInUse before old places → Inserts p rest places
    → Frees before after old new p → AreInUse after new rest
fewer_in_use before after old new p rest places u ins f =
    record { others = u.others; keeps = (f.keeps (places ++ u.others) (rest ++ u.others) u.keeps (inserts_among p rest places u.others ins)).keeps }

pub same_in_use : (heap : Heap) (old new : Store) (p : Place) (i : ℕ) (bytes : List ℕ) (rest places : List Place) → AreInUse heap old places
    → Inserts p rest places
    → PutsInBlock heap old new p i bytes → AreInUse heap new places
same_in_use heap old new p i bytes rest places u ins s =
    record { others = u.others; keeps = (s.keeps (places ++ u.others) (rest ++ u.others) u.keeps (inserts_among p rest places u.others ins)).keeps }

-- whatever `alloc` answers, these places stay in use
pub still_in_use : (r : Result Place GrowFault) (before after : Heap) (old new : Store) (n : ℕ) (places : List Place) → AreInUse before old places
    → IfOk r (λ p. Allocates before after old new n p) → OnErr r ((after ≡ before) × (new ≡ old)) → AreInUse after new places
still_in_use (Ok p) before after old new n places u a e =
    record { others = p ∷ u.others; keeps = (a.keeps (places ++ u.others) (places ++ p ∷ u.others) u.keeps (places, u.others, refl, refl)).keeps }
still_in_use (Err f) before after old new n places u a e =
    subst (λ st. AreInUse after st places) (sym e.1) (subst (λ h. AreInUse h old places) (sym e.0) u)

-- ---- another's calls
-- the chunks of a heap are there
pub heap_there : (heap : Heap) (st : Store) (places : List Place) (k : KeepsPlaces heap st places) → AreThere (Owns heap st places k) st
heap_there heap st places k x o = elim o [
  | inl h ↦ omega (arith, ((k.bin h.0 h.1).places.chunk x h.2).0)
  | inr h ↦ large_exists st places x k.large h
]

-- where no chunk of a heap changed, it keeps what it kept
pub heap_stays : (heap : Heap) (old new : Store) (places : List Place) (k : KeepsPlaces heap old places)
    → ((x : ℕ) → Owns heap old places k x → SameChunk old new x)
    → KeepsStill heap old new places (Owns heap old places k)
heap_stays heap old new places k same =
    let still = frame_heap heap old new places k (λ x o. ((same x o).size, (same x o).bytes)) in
    record {
      keeps = still.keeps;
      owns = still.owns;
      bytes = λ p rest ins i below. (same (chunk_of p) (block_owned heap old places rest p k ins)).bytes (offset_of p + i);
    }
