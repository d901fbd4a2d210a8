use Rattle.std.proofs.Common.{◌+◌, [], ◌∷◌, arith}
use Rattle.gq_store.proofs.Word_byte_spelling.{one_there}
use Rattle.gq_heap.specs.Heap.{chunk_of, offset_of}
use Rattle.gq_heap.proofs.Heap_call_invariants.{block_inside, written}
use Rattle.gq_heap.proofs.Heap_call_effects.{puts}
use Rattle.gq_heap.proofs.Heap_caller_facts.{in_use_still}
use Rattle.gq_heap.proofs.heap.Heap.store.Goals as goal

pub overflow_add-offset : goal.overflow_add-offset
overflow_add-offset g c =
    let i = block_inside c.args.self.now _ c.args.place c.requires.kept.1 in
    omega (arith, i.0, i.1, c.offset.ensures, c.requires.inside)

pub store-requires : goal.store-requires
store-requires g c =
    let i = block_inside c.args.self.now _ c.args.place c.requires.kept.1 in
    rw (c.chunk.ensures, c.offset.ensures) (c.requires.kept.0, omega (arith, i.0, c.requires.inside))

pub returns-clause-puts : goal.returns-clause-puts
returns-clause-puts g c = λ a kept.
    let old = g.S.ByteStore.state c.args.store.now a in
    let new = g.S.ByteStore.state c.store.new.self a in
    let i = block_inside c.args.self.now old c.args.place kept in
    let stored = rw (c.chunk.ensures, c.offset.ensures) at c.store.ensures.stored in
    let alone = rw (c.chunk.ensures, c.offset.ensures) at c.store.ensures.alone in
    let there = one_there (new.byte (chunk_of c.args.place)) (offset_of c.args.place + c.args.index) c.args.value
    (stored a (omega (arith, i.0, c.requires.inside))) in
    puts c.args.self.now old new c.args.place c.args.index (c.args.value ∷ []) (omega (arith, c.requires.inside))
    (written c.args.self.now old new c.args.place c.args.index (c.args.value ∷ []) (omega (arith, c.requires.inside)) there
    (alone a (omega (arith, i.0, c.requires.inside))))

pub returns-clause-in_use : goal.returns-clause-in_use
returns-clause-in_use g c = λ a kept.
    in_use_still c.args.self.now (g.S.ByteStore.state c.args.store.now a) (g.S.ByteStore.state c.store.new.self a) c.args.place c.args.index
    (c.args.value ∷ []) kept (returns-clause-puts g c a kept)

pub returns-clause-rest : goal.returns-clause-rest
returns-clause-rest g c = λ a kept.
    let i = block_inside c.args.self.now _ c.args.place kept in
    let e = rw (c.chunk.ensures, c.offset.ensures) at c.store.ensures.rest in
    e a (omega (arith, i.0, c.requires.inside))
