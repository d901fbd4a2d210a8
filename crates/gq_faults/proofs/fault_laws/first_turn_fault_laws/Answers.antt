use Rattle.gq_faults.proofs.Turn_lines.{first_of_turns}
use Rattle.gq_faults.proofs.fault_laws.first_turn_fault_laws.Goals as goal

pub returns : goal.returns
returns c s text = first_of_turns s text
