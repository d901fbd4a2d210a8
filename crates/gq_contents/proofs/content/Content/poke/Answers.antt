use Rattle.std.proofs.Common.{[], ◌∷◌}
use Rattle.gq_contents.proofs.Content_caller_facts.{is_pool}
use Rattle.gq_contents.proofs.PoolCalls.{pool_puts}
use Rattle.gq_contents.proofs.Slot_pool_entries.{puts_seen}
use Rattle.gq_contents.proofs.content.Content.poke.Goals as goal

pub store-requires-clause-kept : goal.store-requires-clause-kept
store-requires-clause-kept g c = (c.requires.kept.0, is_pool _ _ _ (rw c.pool-pool.ensures at c.requires.kept.1))

pub store-requires-clause-inside : goal.store-requires-clause-inside
store-requires-clause-inside g c = rw c.pool-pool.ensures at c.requires.inside

pub returns-clause-puts : goal.returns-clause-puts
returns-clause-puts g c =
    let l = rw c.pool-pool.ensures at c.requires.inside in
    let fits = c.ranges.value.fits in
    rw c.pool-pool.ensures (λ a among.
    let old = g.S.ByteStore.state c.args.store.now a in
    let new = g.S.ByteStore.state c.store.new.store a in
    let puts = c.store.ensures.puts a (is_pool _ _ _ among) in
    record {
      changes = pool_puts c.pool-pool.result c.args.heap.now old new c.args.index c.args.offset (c.args.value ∷ []) puts;
      seen = puts_seen c.pool-pool.result c.args.heap.now old new c.args.index c.args.offset c.args.value l.0 l.1 fits among puts;
      left = puts.left;
      caps = puts.caps;
    })

pub returns-clause-rest : goal.returns-clause-rest
returns-clause-rest g c =
    rw c.pool-pool.ensures (λ a among. c.store.ensures.rest a (is_pool _ _ _ among))
