use Rattle.std.proofs.Common.{ap, arith}
use Rattle.gq_model.specs.machine.Accounts.{leaf_count}
use Rattle.gq_sizes.proofs.leasts.least_nodes.Goals as goal

pub push_nodes-requires : goal.push_nodes-requires
push_nodes-requires c = omega (arith, ap leaf_count c.nodes.ensures, c.bounds.ensures.count)
