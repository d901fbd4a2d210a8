-- A pool has as many entries as it counts.
use Rattle.std.proofs.Common.{sym, ap, ◌∙◌}
use Rattle.gq_contents.specs.Contents.{seen}
use Rattle.gq_contents.proofs.Content_call_prices.{entries_long}
use Rattle.gq_machine.specs.Readers.{holding_of}
use Rattle.gq_machine.specs.declared.world_reads.Holding.TheVariants.{Pool}
use Rattle.gq_machine.proofs.world_reads.holding_of.Goals as goal

pub returns-in-Pool : goal.returns-in-Pool
returns-in-Pool c st =
    (λ i. Pool (c.size.ensures i) (c.count.ensures i)) ∙ ap (Pool c.in-Pool.pool.size) (sym (entries_long c.in-Pool.pool st))
    ∙ ap (λ t. holding_of (seen st t)) (sym c.in-Pool.is)
