use Rattle.std.proofs.Common.{refl, ◌-◌}
use Rattle.gq_heap.proofs.Bin_take_give.{gives, has_chunk}
use Rattle.gq_heap.proofs.bin.give.Goals as goal

pub push-bin-requires-clause-chunk : goal.push-bin-requires-clause-chunk
push-bin-requires-clause-chunk g c = (
  c.requires.kept.0,
  (has_chunk _ _ c.requires.size c.args.bin.now (g.S.ByteStore.state c.args.store.now c.requires.kept.0)
      c.args.place c.requires.kept.1).0,
)

pub push-bin-requires-clause-number : goal.push-bin-requires-clause-number
push-bin-requires-clause-number g c = (has_chunk _ _ c.requires.size c.args.bin.now (g.S.ByteStore.state c.args.store.now c.requires.kept.0) c.args.place
    c.requires.kept.1).1

pub returns-clause-gives : goal.returns-clause-gives
returns-clause-gives g c = λ a kept.
    let has = (has_chunk _ _ c.requires.size c.args.bin.now (g.S.ByteStore.state c.args.store.now a) c.args.place kept).0 in
    gives _ _ c.requires.size c.args.bin.now (record { head = c.push-bin.result; count = c.args.bin.now.count - 1; peak = c.args.bin.now.peak })
    (g.S.ByteStore.state c.args.store.now a) (g.S.ByteStore.state c.push-bin.new.store a) c.args.place
    c.push-bin.ensures.head refl refl (c.push-bin.ensures.link a has) (c.push-bin.ensures.alone a has)

pub returns-clause-rest : goal.returns-clause-rest
returns-clause-rest g c = λ a kept. c.push-bin.ensures.rest a (has_chunk _ _ c.requires.size c.args.bin.now (g.S.ByteStore.state c.args.store.now a)
    c.args.place kept).0
