use Rattle.std.proofs.Common.{rules}
use Rattle.gq_model.specs.machine.World as world
use Rattle.gq_pool.proofs.Pool_entry_lists.{entries_made}
use Rattle.gq_contents.proofs.PoolCalls.{pool_makes}
use Rattle.gq_contents.proofs.Content_call_prices.{pool_makes_pays}
use Rattle.gq_contents.proofs.content.Content.make_pool.Goals as goal

pub returns-clause-made : goal.returns-clause-made
returns-clause-made g c =
    let m = c.in_ok-pool.ensures.ok in
    record {
      changes = λ heap. pool_makes heap _ _ _ _ c.in_ok-pool.pool m;
      reads = λ i. world.Pool (m.size_is i) (entries_made c.in_ok-pool.pool _ _ _ _ m i);
      size = search rules;
      pays = λ heap. pool_makes_pays heap _ _ _ _ c.in_ok-pool.pool m;
    }
