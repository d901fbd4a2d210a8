-- Laws of the nodes that accounts have at first.
use Rattle.gq_prepared.proofs.Planned_account_nodes.{first_kept, quantum_of, stage_of}
use Rattle.gq_prepared.proofs.first_node_laws.first_nodes.Goals as goal

pub returns : goal.returns
returns c = record { nodes = first_kept; quanta = quantum_of; stages = stage_of }
