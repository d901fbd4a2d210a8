use Rattle.gq_contents.proofs.Content_caller_facts.{is_pool}
use Rattle.gq_contents.proofs.Slot_pool_entries.{absent_none, none_absent}
use Rattle.gq_contents.proofs.content.Content.has_entry.Goals as goal

pub has_entry-requires-clause-kept : goal.has_entry-requires-clause-kept
has_entry-requires-clause-kept g c = (c.requires.kept.0, is_pool _ _ _ (rw c.pool-pool.ensures at c.requires.kept.1))

pub has_entry-requires-clause-inside : goal.has_entry-requires-clause-inside
has_entry-requires-clause-inside g c = rw c.pool-pool.ensures at c.requires.inside

pub returns : goal.returns
returns g c =
    let l = rw c.pool-pool.ensures at c.requires.inside in
    rw c.pool-pool.ensures (λ a among.
    let absent = c.has_entry.ensures a (is_pool _ _ _ among) in (
      λ e. absent_none c.pool-pool.result (g.S.ByteStore.state c.args.store.now a) c.args.index l (absent.0 e),
      λ e. absent.1 (none_absent c.pool-pool.result (g.S.ByteStore.state c.args.store.now a) c.args.index l e),
    ))
