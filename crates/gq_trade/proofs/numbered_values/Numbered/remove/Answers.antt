use Rattle.std.proofs.Common.{rules}
use Rattle.gq_trade.proofs.numbered_values.Numbered.remove.Goals as goal

pub invariant_of-self : goal.invariant_of-self
invariant_of-self g c = search rules
