-- Laws of services that are routed to a leaf.
use Rattle.gq_laws.proofs.ready.Routed_leaf_services.{found, provided, declared}
use Rattle.gq_laws.proofs.ready.served.Goals as goal

pub returns : goal.returns
returns c = record { leaf = provided; interface = declared; there = found }
