use Rattle.gq_sizes.proofs.Accepted_opens_pay.{nothing_short}
use Rattle.gq_sizes.proofs.Accepted_sizes_suffice.{are_enough, has_least}
use Rattle.gq_sizes.proofs.Settled_capability_needs.{settled}
use Rattle.gq_sizes.proofs.Session_chains_end.{none_endless}
use Rattle.gq_sizes.proofs.Sized_scenario_accepted.{is_accepted_sized}
use Rattle.gq_sizes.proofs.Judged_scenarios.{is_judged}
use Rattle.gq_sizes.proofs.least_size_laws.least_laws.Goals as goal

pub returns-clause-accepted : goal.returns-clause-accepted
returns-clause-accepted c s sound pages = has_least s sound pages

pub returns-clause-sized : goal.returns-clause-sized
returns-clause-sized c s formed ends judged quiet = is_accepted_sized s formed (settled s ends) judged quiet

pub returns-clause-short : goal.returns-clause-short
returns-clause-short c s t alike sound = nothing_short t s sound alike

pub returns-clause-least : goal.returns-clause-least
returns-clause-least c s t alike sound pages = are_enough t s sound alike pages

pub returns-clause-judged : goal.returns-clause-judged
returns-clause-judged c s t alike sound = is_judged t s sound alike

pub returns-clause-endless : goal.returns-clause-endless
returns-clause-endless c s t alike sound = none_endless t s sound alike
