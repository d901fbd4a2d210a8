use Rattle.gq_laws.proofs.typed_worlds.Accepted_run_typed.{reached_typed}
use Rattle.gq_laws.proofs.upheld_worlds.Standing_world_invariant.{stands_first, stands_next, stands_set, stands_submit, stands_upheld}
use Rattle.gq_laws.proofs.upheld_worlds.Upheld_accounts.{upheld_accounts}
use Rattle.gq_laws.proofs.upheld_worlds.Upheld_runs.{reached_upheld, run_upholds}
use Rattle.gq_laws.proofs.accepted_runs.accepted_laws.Goals as goal

pub returns-clause-first : goal.returns-clause-first
returns-clause-first c = stands_first

pub returns-clause-kept : goal.returns-clause-kept
returns-clause-kept c = stands_next

pub returns-clause-set : goal.returns-clause-set
returns-clause-set c = stands_set

pub returns-clause-submitted : goal.returns-clause-submitted
returns-clause-submitted c = stands_submit

pub returns-clause-promises : goal.returns-clause-promises
returns-clause-promises c = stands_upheld

pub returns-clause-accounts : goal.returns-clause-accounts
returns-clause-accounts c = upheld_accounts

pub returns-clause-typed : goal.returns-clause-typed
returns-clause-typed c s w sound reached = reached_typed s sound w reached

pub returns-clause-upheld : goal.returns-clause-upheld
returns-clause-upheld c s w sound reached = reached_upheld s sound w reached

pub returns-clause-runs : goal.returns-clause-runs
returns-clause-runs c s turns sound = run_upholds s sound turns
