use Rattle.gq_statements.proofs.linked.Standing_sessions.{in_slot, slot_of_session}
use Rattle.gq_statements.proofs.linked.linked_sessions.Goals as goal

pub returns-clause-links : goal.returns-clause-links
returns-clause-links c system f s p k l h = slot_of_session system f s l h p k

pub returns-clause-sessions : goal.returns-clause-sessions
returns-clause-sessions c system f s k l h long there = in_slot system f s l h k there long
