use Rattle.std.proofs.Common.{◌∙◌}
use Rattle.gq_resolve.proofs.Use_chain_flags.{flagged}
use Rattle.gq_resolve.proofs.cycle.one_more.Goals as goal

pub loop-servers-preserved : goal.loop-servers-preserved
loop-servers-preserved c =
    let step = flagged (λ l. l.items) c.args.used.now c.loop-servers.servers-index c.servers-item.result c.args.goal c.args.flags.now c.loop-servers.next.items
    c.loop-servers-test.true c.servers-item.is in
    rw (c.in_ok-push.ensures.items, c.leads_on.ensures, c.as_slice.ensures.value) (step ∙ c.loop-servers.invariant)
