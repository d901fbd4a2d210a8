use Rattle.std.proofs.Common.{rules}
use Rattle.gq_resolve.proofs.cycle.reaching.Goals as goal

pub loop-round-init : goal.loop-round-init
loop-round-init c = search rules
