use Rattle.std.proofs.Common.{sym, ◌∙◌, arith}
use Rattle.gq_contents.proofs.Extent_bytes.{byte_inside, byte_read, extent_there, word_inside, word_read}
use Rattle.gq_contents.proofs.extents.read.Goals as goal

pub returns-in-Byte : goal.returns-in-Byte
returns-in-Byte g c =
    let inside = rw c.in-Byte.is at c.requires.inside in
    λ a heap t among is.
    let st = g.S.ByteStore.state c.args.store.now a in
    let there = extent_there heap st t c.args.extent among is in
    rw c.in-Byte.is (c.from.ensures ∙ c.load.ensures a (byte_inside st c.args.extent c.args.index there inside)
    ∙ sym (byte_read st t c.args.extent c.args.index is inside))

pub returns-in-Word : goal.returns-in-Word
returns-in-Word g c =
    let inside = rw c.in-Word.is at c.requires.inside in
    λ a heap t among is.
    let st = g.S.ByteStore.state c.args.store.now a in
    let there = extent_there heap st t c.args.extent among is in
    rw c.in-Word.is (c.load4.ensures a (word_inside st c.args.extent c.args.index there inside)
    ∙ sym (word_read st t c.args.extent c.args.index is inside))

pub load-requires : goal.load-requires
load-requires g c =
    let of = c.requires.there.1 in
    let inside = rw c.in-Byte.is at c.requires.inside in (
      c.requires.there.0,
      byte_inside (g.S.ByteStore.state c.args.store.now c.requires.there.0) c.args.extent c.args.index
          (extent_there of.heap _ of.content c.args.extent of.among of.is) inside,
    )

pub load4-requires : goal.load4-requires
load4-requires g c =
    let of = c.requires.there.1 in
    let inside = rw c.in-Word.is at c.requires.inside in (
      c.requires.there.0,
      word_inside (g.S.ByteStore.state c.args.store.now c.requires.there.0) c.args.extent c.args.index
          (extent_there of.heap _ of.content c.args.extent of.among of.is) inside,
    )

pub overflow_add-extent : goal.overflow_add-extent
overflow_add-extent g c =
    let of = c.requires.there.1 in
    let inside = rw c.in-Byte.is at c.requires.inside in
    omega (arith, inside, (extent_there of.heap _ of.content c.args.extent of.among of.is).few)

pub overflow_add-extent-in-Word : goal.overflow_add-extent-in-Word
overflow_add-extent-in-Word g c =
    let of = c.requires.there.1 in
    let inside = rw c.in-Word.is at c.requires.inside in
    omega (arith, inside, (extent_there of.heap _ of.content c.args.extent of.among of.is).few)
