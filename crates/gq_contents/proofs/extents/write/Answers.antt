use Rattle.std.proofs.Common.{◌+◌, ◌%◌, arith}
use Rattle.gq_model.specs.machine.Program.{spelled}
use Rattle.gq_store.proofs.Word_byte_spelling.{one_there, word_there}
use Rattle.gq_contents.proofs.Extent_bytes.{byte_inside, extent_there, touched, word_inside}
use Rattle.gq_contents.proofs.extents.write.Goals as goal

pub returns-in-Byte-clause-puts : goal.returns-in-Byte-clause-puts
returns-in-Byte-clause-puts g c =
    let inside = rw c.in-Byte.is at c.requires.inside in
    λ a heap t among is.
    let old = g.S.ByteStore.state c.args.store.now a in
    let new = g.S.ByteStore.state c.store.new.self a in
    let e = c.args.extent in
    let there = byte_inside old e c.args.index (extent_there heap old t e among is) inside in
    rw c.in-Byte.is (touched heap old new c.args.index (spelled 1 c.args.value) t e among is inside
    (one_there (new.byte e.chunk) (e.start + c.args.index) (c.args.value % 256) (c.store.ensures.stored a there)) (c.store.ensures.alone a there))

pub returns-in-Word-clause-puts : goal.returns-in-Word-clause-puts
returns-in-Word-clause-puts g c =
    let inside = rw c.in-Word.is at c.requires.inside in
    λ a heap t among is.
    let old = g.S.ByteStore.state c.args.store.now a in
    let new = g.S.ByteStore.state c.store4.new.self a in
    let e = c.args.extent in
    let there = word_inside old e c.args.index (extent_there heap old t e among is) inside in
    rw c.in-Word.is (touched heap old new c.args.index (spelled 4 c.args.value) t e among is inside
    (word_there (new.byte e.chunk) (e.start + c.args.index) c.args.value c.ranges.value.fits (c.store4.ensures.bytes a there))
    (c.store4.ensures.alone a there))

pub returns-in-Byte-clause-rest : goal.returns-in-Byte-clause-rest
returns-in-Byte-clause-rest g c =
    let inside = rw c.in-Byte.is at c.requires.inside in
    λ a of.
    c.store.ensures.rest a (byte_inside (g.S.ByteStore.state c.args.store.now a) c.args.extent c.args.index
    (extent_there of.heap _ of.content c.args.extent of.among of.is) inside)

pub returns-in-Word-clause-rest : goal.returns-in-Word-clause-rest
returns-in-Word-clause-rest g c =
    let inside = rw c.in-Word.is at c.requires.inside in
    λ a of.
    c.store4.ensures.rest a (word_inside (g.S.ByteStore.state c.args.store.now a) c.args.extent c.args.index
    (extent_there of.heap _ of.content c.args.extent of.among of.is) inside)

pub store-requires : goal.store-requires
store-requires g c =
    let of = c.requires.there.1 in
    let inside = rw c.in-Byte.is at c.requires.inside in (
      c.requires.there.0,
      byte_inside (g.S.ByteStore.state c.args.store.now c.requires.there.0) c.args.extent c.args.index
          (extent_there of.heap _ of.content c.args.extent of.among of.is) inside,
    )

pub store4-requires : goal.store4-requires
store4-requires g c =
    let of = c.requires.there.1 in
    let inside = rw c.in-Word.is at c.requires.inside in (
      c.requires.there.0,
      word_inside (g.S.ByteStore.state c.args.store.now c.requires.there.0) c.args.extent c.args.index
          (extent_there of.heap _ of.content c.args.extent of.among of.is) inside,
    )

pub overflow_add-extent : goal.overflow_add-extent
overflow_add-extent g c =
    let of = c.requires.there.1 in
    let inside = rw c.in-Byte.is at c.requires.inside in
    omega (arith, inside, (extent_there of.heap _ of.content c.args.extent of.among of.is).few)

pub overflow_add-extent-in-Word : goal.overflow_add-extent-in-Word
overflow_add-extent-in-Word g c =
    let of = c.requires.there.1 in
    let inside = rw c.in-Word.is at c.requires.inside in
    omega (arith, inside, (extent_there of.heap _ of.content c.args.extent of.among of.is).few)
