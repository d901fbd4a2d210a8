use Rattle.std.proofs.Common.{◌≡◌, List, length, length-set, set, refl, ap, ◌∙◌, arith, rules}
use Rattle.gq_heap.specs.Classes.{index_of}
use Rattle.gq_heap.proofs.ClassLaws.{sizes, index_below}
use Rattle.gq_heap.proofs.Heap_call_invariants.{allocates_small}
use Rattle.gq_heap.proofs.Heap_call_effects.{allocates}
use Rattle.gq_heap.proofs.heap.Heap.alloc_small.Goals as goal

pub take-requires-clause-size : goal.take-requires-clause-size
take-requires-clause-size g c = rw (c.place_size.ensures, c.places_per_chunk.ensures)
    (sizes (index_of c.class_for_size-class.result) (index_below c.class_for_size-class.result))

eight : {A : Type 0} (xs : List A) → length xs ≡ 8 → length xs ≡ 8
eight xs h = h

pub returns-clause-ok : goal.returns-clause-ok
returns-clause-ok g c =
    let h = c.in_ok-number.ensures.ok in
    let t = rw (c.place_size.ensures, c.places_per_chunk.ensures, c.class_index.ensures.index) at h in
    let bins : length c.args.self.now.bins ≡ 8 = eight _ (search rules) in
    allocates c.args.self.now _ (g.S.ByteStore.state c.args.store.now c.args.account.0) (g.S.ByteStore.state c.take.new.store c.args.account.0) c.args.size _
    (allocates_small c.args.self.now _ (g.S.ByteStore.state c.args.store.now c.args.account.0) (g.S.ByteStore.state c.take.new.store c.args.account.0)
    c.class_for_size-class.result
    c.take.new.bin c.args.size c.in_ok-number.number
    (omega (arith, c.requires.size)) c.class_for_size-class.ensures.size c.class_for_size-class.ensures.index bins
    (ap (λ i. set c.args.self.now.bins i c.take.new.bin) c.class_index-2.ensures.index) refl refl t)
    bins (length-set c.args.self.now.bins c.class_index-2.result c.take.new.bin ∙ bins)
