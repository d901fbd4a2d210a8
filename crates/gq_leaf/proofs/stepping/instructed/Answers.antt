use Rattle.gq_leaf.proofs.Instruction_step as steps
use Rattle.gq_leaf.proofs.stepping.instructed.Goals as goal

pub returns : goal.returns
returns c = steps.instructed
