use Rattle.std.proofs.lemmas.Result.{IfOk-weaker}
use Rattle.gq_pool.specs.Pools.{IsPool, Makes}
use Rattle.gq_pool.proofs.Pool_caller_facts.{pool_made}
use Rattle.gq_memory_rows.proofs.pool_rows.make.Goals as goal

pub returns-clause-kept : goal.returns-clause-kept
returns-clause-kept g c =
    let old = g.S.ByteStore.state c.args.store.now c.args.account.0 in
    let new = g.S.ByteStore.state c.new.new.store c.args.account.0 in
    IfOk-weaker c.new.result (λ pool. Makes old new 16 1024 pool) (λ pool. IsPool pool c.args.heap.now new)
    (λ pool m. pool_made pool c.args.heap.now old new 16 1024 c.requires m) c.new.ensures.ok
