use Rattle.std.proofs.Common.{◌+◌, ◌<◌, [], ◌∷◌, arith}
use Rattle.gq_store.proofs.Word_byte_spelling.{one_there}
use Rattle.gq_sliced.proofs.Slice_byte_writes.{puts}
use Rattle.gq_sliced.proofs.Sliced.store.Goals as goal

pub store-requires : goal.store-requires
store-requires g c =
    let h = c.requires.1 in
    rw c.chunk.ensures (c.requires.0, omega (arith, h.has.pages, h.inside))

pub returns-clause-puts : goal.returns-clause-puts
returns-clause-puts g c = λ a h.
    let old = g.S.ByteStore.state c.args.store.now a in
    let new = g.S.ByteStore.state c.store.new.self a in
    let stored = rw c.chunk.ensures at c.store.ensures.stored in
    let alone = rw c.chunk.ensures at c.store.ensures.alone in
    let inside : 32 + c.args.index < old.size c.args.slice = omega (arith, h.has.pages, h.inside) in
    puts old new c.args.slice c.args.index (c.args.value ∷ [])
    (one_there (new.byte c.args.slice) (32 + c.args.index) c.args.value (stored a inside)) (alone a inside)

pub returns-clause-rest : goal.returns-clause-rest
returns-clause-rest g c = λ a h.
    let rest = rw c.chunk.ensures at c.store.ensures.rest in
    rest a (omega (arith, h.has.pages, h.inside))
