use Rattle.std.proofs.Common.{ap, arith}
use Rattle.gq_model.specs.machine.Accounts.{leaf_count}
use Rattle.gq_views.proofs.tree.drawn_text.Goals as goal

pub push_nodes-requires-clause-leaves : goal.push_nodes-requires-clause-leaves
push_nodes-requires-clause-leaves c = omega (arith, ap leaf_count c.nodes-2.ensures, c.bounds.ensures.count)
