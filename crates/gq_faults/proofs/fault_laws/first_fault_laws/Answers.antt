use Rattle.gq_faults.proofs.First_of_texts.{first_of_all}
use Rattle.gq_faults.proofs.fault_laws.first_fault_laws.Goals as goal

pub returns : goal.returns
returns c text = first_of_all text
