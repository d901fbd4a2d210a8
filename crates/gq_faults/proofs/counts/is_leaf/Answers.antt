use Rattle.std.proofs.Common.{rules}
use Rattle.gq_faults.proofs.counts.is_leaf.Goals as goal

pub returns-then-not-node : goal.returns-then-not-node
returns-then-not-node c = search rules
