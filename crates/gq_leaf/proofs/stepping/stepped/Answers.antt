use Rattle.gq_leaf.proofs.Leaves_stepping.{steps_err, steps_ok}
use Rattle.gq_leaf.proofs.stepping.stepped.Goals as goal

pub returns-clause-done : goal.returns-clause-done
returns-clause-done c = steps_ok

pub returns-clause-wrong : goal.returns-clause-wrong
returns-clause-wrong c = steps_err
