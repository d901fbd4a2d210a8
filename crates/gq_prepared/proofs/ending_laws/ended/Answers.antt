use Rattle.gq_prepared.proofs.ending_laws.Ended_leaf_nodes.{nodes_then, of_then}
use Rattle.gq_prepared.proofs.ending_laws.ended.Goals as goal

pub returns-clause-of : goal.returns-clause-of
returns-clause-of c = of_then

pub returns-clause-nodes : goal.returns-clause-nodes
returns-clause-nodes c = nodes_then
