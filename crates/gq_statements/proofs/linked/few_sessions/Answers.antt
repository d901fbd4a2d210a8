use Rattle.gq_statements.proofs.linked.Session_count.{few}
use Rattle.gq_statements.proofs.linked.few_sessions.Goals as goal

pub returns : goal.returns
returns c system f s l h sound = few system f s l h sound
