use Rattle.gq_laws.proofs.step_shapes.Step_counting.{stands_still, keeps_leaves, counts_steps, takes_signals}
use Rattle.gq_laws.proofs.turn_step_laws.turn_laws.Goals as goal

pub returns-clause-idle : goal.returns-clause-idle
returns-clause-idle c = stands_still

pub returns-clause-leaves : goal.returns-clause-leaves
returns-clause-leaves c = keeps_leaves

pub returns-clause-counted : goal.returns-clause-counted
returns-clause-counted c = counts_steps

pub returns-clause-signals : goal.returns-clause-signals
returns-clause-signals c = takes_signals
