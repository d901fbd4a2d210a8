use Rattle.std.proofs.Common.{arith}
use Rattle.std.proofs.lemmas.Grind.{common_steps}
use Rattle.gq_resolve.proofs.node_table.interface_number.Goals as goal

pub returns-then-same_text : goal.returns-then-same_text
returns-then-same_text c = grind (arith, common_steps)
