use Rattle.gq_determined.proofs.from_rest.Reactions_same.{all_react_with_same, reacts_to_same, reacts_with_same}
use Rattle.gq_determined.proofs.synchronous.synchronous_laws.Goals as goal

pub returns-clause-accounts : goal.returns-clause-accounts
returns-clause-accounts c s w sound none reached = reacts_to_same s w sound none reached

pub returns-clause-writes : goal.returns-clause-writes
returns-clause-writes c s w sound none reached = reacts_with_same s w sound none reached

pub returns-clause-all : goal.returns-clause-all
returns-clause-all c s w sound none quiet reached = all_react_with_same s w sound none reached quiet
