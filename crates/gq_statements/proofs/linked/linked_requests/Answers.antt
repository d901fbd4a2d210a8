use Rattle.gq_statements.proofs.linked.Standing_sessions.{awaited_at}
use Rattle.gq_statements.proofs.linked.Waiting_requests.{asked, idle}
use Rattle.gq_statements.proofs.linked.linked_requests.Goals as goal

pub returns-clause-idle : goal.returns-clause-idle
returns-clause-idle c system f s x l h = idle system f s l h x

pub returns-clause-awaited : goal.returns-clause-awaited
returns-clause-awaited c system f s p k l h = awaited_at system f s l h p k

pub returns-clause-oldest : goal.returns-clause-oldest
returns-clause-oldest c system f s x r rest l h sound = asked system f s l h sound x r rest
