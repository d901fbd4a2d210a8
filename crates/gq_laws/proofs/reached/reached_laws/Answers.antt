use Rattle.gq_laws.proofs.upheld_worlds.Any_reached_world.{reached_whole, reached_linked, reached_paid, reached_closes, reached_ends, reached_sums}
use Rattle.gq_laws.proofs.reached.reached_laws.Goals as goal

pub returns-clause-whole : goal.returns-clause-whole
returns-clause-whole c = reached_whole

pub returns-clause-linked : goal.returns-clause-linked
returns-clause-linked c = reached_linked

pub returns-clause-paid : goal.returns-clause-paid
returns-clause-paid c = reached_paid

pub returns-clause-closes : goal.returns-clause-closes
returns-clause-closes c = reached_closes

pub returns-clause-sums : goal.returns-clause-sums
returns-clause-sums c = reached_sums

pub returns-clause-ends : goal.returns-clause-ends
returns-clause-ends c = reached_ends
