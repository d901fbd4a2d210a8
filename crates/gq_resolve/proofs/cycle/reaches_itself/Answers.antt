use Rattle.std.proofs.Common.{length, map}
use Rattle.gq_resolve.proofs.Use_chain_flags.{flags_at}
use Rattle.gq_resolve.proofs.cycle.reaches_itself.Goals as goal

pub returns : goal.returns
returns c =
    rw (c.is_set.ensures, c.as_slice.ensures.value, c.in_ok-flags.ensures)
    (flags_at (length c.args.used.now) (map (λ l. l.items) c.args.used.now) c.args.leaf c.args.leaf)
