use Rattle.std.proofs.Common.{rules}
use Rattle.gq_load.proofs.leaf_programs.read_program_with.Goals as goal

pub returns-in-Ok-clause-faultless : goal.returns-in-Ok-clause-faultless
returns-in-Ok-clause-faultless c = search rules

pub returns-in-Ok-clause-program : goal.returns-in-Ok-clause-program
returns-in-Ok-clause-program c = search rules
