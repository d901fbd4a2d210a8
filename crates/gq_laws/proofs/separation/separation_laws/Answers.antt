use Rattle.gq_laws.proofs.upheld_worlds.Any_reached_world.{reached_linked}
use Rattle.gq_model.specs.machine.Scenario.{system}
use Rattle.gq_laws.proofs.Outside_step_untouched.{step_untouched, step_requests}
use Rattle.gq_laws.proofs.Group_account_sums.{same_accounts}
use Rattle.gq_laws.proofs.Separation_turning.{turns_touch_nothing}
use Rattle.gq_laws.proofs.separation.separation_laws.Goals as goal

pub returns-clause-untouched : goal.returns-clause-untouched
returns-clause-untouched c s group w x new event reached apart out e = step_untouched group (system s) w x new event (reached_linked s w reached) apart out e

pub returns-clause-requests : goal.returns-clause-requests
returns-clause-requests c s group w x new event reached apart out e = step_requests group (system s) w x new event (reached_linked s w reached) apart out e

pub returns-clause-accounts : goal.returns-clause-accounts
returns-clause-accounts c s group old new h = same_accounts (system s) group old new h

pub returns-clause-turns : goal.returns-clause-turns
returns-clause-turns c s group turns apart = turns_touch_nothing s group turns apart
