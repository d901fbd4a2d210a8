use Rattle.gq_statements.proofs.linked.Ended_leaves.{awake, no_sessions}
use Rattle.gq_statements.proofs.linked.Waiting_requests.{handled}
use Rattle.gq_statements.proofs.linked.linked_leaves.Goals as goal

pub returns-clause-all_current : goal.returns-clause-all_current
returns-clause-all_current c system f s x current l h = handled system f s l h x current

pub returns-clause-ends : goal.returns-clause-ends
returns-clause-ends c system f s x l h long runs = no_sessions system f s l h long x (awake (f.leaf x).phase runs)
