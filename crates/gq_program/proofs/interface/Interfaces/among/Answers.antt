use Rattle.std.proofs.Common.{arith}
use Rattle.std.proofs.lemmas.Grind.{common_steps}
use Rattle.gq_program.proofs.interface.Interfaces.among.Goals as goal

pub returns-then-same_text : goal.returns-then-same_text
returns-then-same_text c = grind (arith, common_steps)
