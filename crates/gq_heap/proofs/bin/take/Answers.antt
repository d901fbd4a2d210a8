use Rattle.std.proofs.Common.{◌+◌, refl, arith}
use Rattle.std.proofs.lemmas.Result.{err_from_is_err_and}
use Rattle.gq_heap.proofs.Bin_take_give.{exceeded_iff, caps_iff, bin_few, first_chunk, taken, at_err, at_ok, same_ok}
use Rattle.gq_heap.proofs.bin.take.Goals as goal

pub returns-in_err-head-clause-exceeded : goal.returns-in_err-head-clause-exceeded
returns-in_err-head-clause-exceeded g c =
    let p = err_from_is_err_and c.from_residual.result c.from_residual.ensures.1 in
    at_err c.from_residual.result _ _ _ _ _ p.1 p.2
    (exceeded_iff _ _ c.requires.size c.args.bin.now (g.S.ByteStore.state c.args.store.now c.args.account.0) c.requires.kept) c.in_err-head.ensures.exceeded

pub returns-in_err-head-clause-caps : goal.returns-in_err-head-clause-caps
returns-in_err-head-clause-caps g c =
    let p = err_from_is_err_and c.from_residual.result c.from_residual.ensures.1 in
    at_err c.from_residual.result _ _ _ _ _ p.1 p.2
    (caps_iff _ _ c.requires.size c.args.bin.now (g.S.ByteStore.state c.args.store.now c.args.account.0) c.requires.kept) c.in_err-head.ensures.caps

pub returns-clause-exceeded : goal.returns-clause-exceeded
returns-clause-exceeded g c =
    at_ok _ _ _ _ _ (exceeded_iff _ _ c.requires.size c.args.bin.now (g.S.ByteStore.state c.args.store.now c.args.account.0) c.requires.kept)
    c.in_ok-head.ensures.exceeded

pub returns-clause-caps : goal.returns-clause-caps
returns-clause-caps g c =
    at_ok _ _ _ _ _ (caps_iff _ _ c.requires.size c.args.bin.now (g.S.ByteStore.state c.args.store.now c.args.account.0) c.requires.kept)
    c.in_ok-head.ensures.caps

pub overflow_sub-place : goal.overflow_sub-place
overflow_sub-place g c =
    (first_chunk _ _ c.requires.size c.args.bin.now (g.S.ByteStore.state c.args.store.now c.args.account.0) (g.S.ByteStore.state c.first_free.new.store
    c.args.account.0) c.in_ok-head.head
    c.requires.kept
    (λ h. same_ok _ _ _ _ (c.in_ok-head.ensures.same h)) c.in_ok-head.ensures.chained).0

pub pop-bin-requires-clause-chunk : goal.pop-bin-requires-clause-chunk
pop-bin-requires-clause-chunk g c =
    let chunk = first_chunk _ _ c.requires.size c.args.bin.now (g.S.ByteStore.state c.args.store.now c.args.account.0)
    (g.S.ByteStore.state c.first_free.new.store c.args.account.0) c.in_ok-head.head c.requires.kept
    (λ h. same_ok _ _ _ _ (c.in_ok-head.ensures.same h)) c.in_ok-head.ensures.chained in
    (c.args.account.0, chunk.1)

pub overflow_add-bin : goal.overflow_add-bin
overflow_add-bin g c =
    let k = c.requires.kept in
    omega (
      arith,
      k.kept.count,
      bin_few _ _ c.requires.size c.args.bin.now.head (g.S.ByteStore.state c.args.store.now c.args.account.0) k.kept.free k.used
          k.mine k.kept.places,
    )

pub returns-clause-ok : goal.returns-clause-ok
returns-clause-ok g c =
    let chunk = first_chunk _ _ c.requires.size c.args.bin.now (g.S.ByteStore.state c.args.store.now c.args.account.0)
    (g.S.ByteStore.state c.first_free.new.store c.args.account.0) c.in_ok-head.head c.requires.kept
    (λ h. same_ok _ _ _ _ (c.in_ok-head.ensures.same h)) c.in_ok-head.ensures.chained in
    let has = chunk.1 in
    taken _ _ c.requires.size c.args.bin.now (record { head = c.pop-bin.result; count = c.args.bin.now.count + 1; peak = c.max-bin.result })
    (g.S.ByteStore.state c.args.store.now c.args.account.0) (g.S.ByteStore.state c.first_free.new.store c.args.account.0)
    (g.S.ByteStore.state c.pop-bin.new.store c.args.account.0) c.in_ok-head.head c.requires.kept
    (λ h. same_ok _ _ _ _ (c.in_ok-head.ensures.same h)) c.in_ok-head.ensures.chained
    (c.pop-bin.ensures.next c.args.account.0 has) refl c.max-bin.ensures (c.pop-bin.ensures.zero c.args.account.0 has)
    (c.pop-bin.ensures.alone c.args.account.0 has)

pub returns-clause-rest : goal.returns-clause-rest
returns-clause-rest g c =
    let chunk = first_chunk _ _ c.requires.size c.args.bin.now (g.S.ByteStore.state c.args.store.now c.args.account.0)
    (g.S.ByteStore.state c.first_free.new.store c.args.account.0) c.in_ok-head.head c.requires.kept
    (λ h. same_ok _ _ _ _ (c.in_ok-head.ensures.same h)) c.in_ok-head.ensures.chained in
    g.met.S.ByteStore.rest_trans _ _ _ _ c.in_ok-head.ensures.rest (c.pop-bin.ensures.rest c.args.account.0 chunk.1)
