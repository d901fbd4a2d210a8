use Rattle.std.proofs.Common.{◌≡◌, List, length, length-set, set, refl, ap, ◌∙◌, rules}
use Rattle.gq_heap.specs.Classes.{index_of}
use Rattle.gq_heap.proofs.ClassLaws.{sizes, index_below}
use Rattle.gq_heap.proofs.Heap_call_invariants.{has_small, frees_small}
use Rattle.gq_heap.proofs.Heap_call_effects.{frees}
use Rattle.gq_heap.proofs.heap.Heap.free_small.Goals as goal

pub give-requires-clause-size : goal.give-requires-clause-size
give-requires-clause-size g c = rw (c.place_size.ensures, c.places_per_chunk.ensures) (sizes (index_of c.args.class) (index_below c.args.class))

pub give-requires-clause-kept : goal.give-requires-clause-kept
give-requires-clause-kept g c = (
  c.requires.0,
  has_small c.args.self.now _ c.args.class c.args.number _ _ _ c.place_size.ensures c.places_per_chunk.ensures c.class_index.ensures.index c.requires.1,
)

eight : {A : Type 0} (xs : List A) → length xs ≡ 8 → length xs ≡ 8
eight xs h = h

pub returns-clause-frees : goal.returns-clause-frees
returns-clause-frees g c = λ a kept.
    let old = g.S.ByteStore.state c.args.store.now a in
    let new = g.S.ByteStore.state c.give.new.store a in
    let has = has_small c.args.self.now old c.args.class c.args.number _ _ _ c.place_size.ensures c.places_per_chunk.ensures c.class_index.ensures.index kept in
    let t = rw (c.place_size.ensures, c.places_per_chunk.ensures, c.class_index.ensures.index) at (c.give.ensures.gives a has) in
    let bins : length c.args.self.now.bins ≡ 8 = eight _ (search rules) in
    frees c.args.self.now _ old new _
    (frees_small c.args.self.now _ old new c.args.class c.give.new.bin c.args.number
    bins (ap (λ i. set c.args.self.now.bins i c.give.new.bin) c.class_index-2.ensures.index) refl refl t)
    bins (length-set c.args.self.now.bins c.class_index-2.result c.give.new.bin ∙ bins)

pub returns-clause-rest : goal.returns-clause-rest
returns-clause-rest g c = λ a kept.
    c.give.ensures.rest a
    (has_small c.args.self.now _ c.args.class c.args.number _ _ _ c.place_size.ensures c.places_per_chunk.ensures c.class_index.ensures.index kept)
