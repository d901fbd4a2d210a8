use Rattle.gq_outcomes.proofs.sound.Found.{are_outcomes}
use Rattle.gq_outcomes.proofs.sound.One.{is_one}
use Rattle.gq_outcomes.proofs.complete.All_found.{all_found_so}
use Rattle.gq_outcomes.proofs.laws.outcome_laws.Goals as goal

pub returns-clause-sound : goal.returns-clause-sound
returns-clause-sound c s sound = are_outcomes s sound

pub returns-clause-one : goal.returns-clause-one
returns-clause-one c s = is_one s

pub returns-clause-complete : goal.returns-clause-complete
returns-clause-complete c s sound = all_found_so s sound
