-- Blocks whose places are kept in a list, the last one made at its end.
use Rattle.std.proofs.Common.{ℕ, List, [], ◌∷◌, ◌++◌, append_assoc, append-nil, refl, sym}
use Rattle.gq_store.specs.Store.{Store}
use Rattle.gq_heap.specs.declared.heap.Heap.{Heap}
use Rattle.gq_heap.specs.declared.heap.Place.{Place}
use Rattle.gq_heap.specs.Heap.{AreInUse, Allocates, Frees}
use Rattle.gq_heap.proofs.Heap_caller_facts.{fewer_in_use}

pub last_made : (before after : Heap) (old new : Store) (n : ℕ) (p : Place) (places : List Place) → AreInUse before old places
    → Allocates before after old new n p → AreInUse after new (places ++ p ∷ [])
last_made before after old new n p places u a = record {
  others = u.others;
  keeps = (a.keeps (places ++ u.others) ((places ++ p ∷ []) ++ u.others) u.keeps (places, u.others, refl, append_assoc places (p ∷ []) u.others)).keeps;
}

pub last_freed : (before after : Heap) (old new : Store) (p : Place) (rest : List Place) → AreInUse before old (rest ++ p ∷ [])
    → Frees before after old new p → AreInUse after new rest
last_freed before after old new p rest u f = fewer_in_use before after old new p rest (rest ++ p ∷ []) u (rest, [], sym (append-nil rest), refl) f
