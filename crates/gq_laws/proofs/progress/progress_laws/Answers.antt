use Rattle.gq_laws.proofs.progress.Lasting_world_invariant.{reached_lasts}
use Rattle.gq_laws.proofs.progress.No_deadlock.{goes_on}
use Rattle.gq_laws.proofs.progress.Work_ends.{work_ends, rounds_suffice}
use Rattle.gq_laws.proofs.progress.Run_turn_composition.{runs_through}
use Rattle.gq_laws.proofs.progress.progress_laws.Goals as goal

pub returns-clause-goes_on : goal.returns-clause-goes_on
returns-clause-goes_on c s w sound reached = goes_on s w (reached_lasts s sound w reached)

pub returns-clause-ends : goal.returns-clause-ends
returns-clause-ends c s w sound reached = work_ends s w (reached_lasts s sound w reached)

pub returns-clause-rounds : goal.returns-clause-rounds
returns-clause-rounds c s w sound reached = rounds_suffice s w (reached_lasts s sound w reached)

pub returns-clause-runs : goal.returns-clause-runs
returns-clause-runs c s turns sound = runs_through s sound turns
