use Rattle.std.proofs.Common.{arith}
use Rattle.std.proofs.lemmas.Grind.{common_steps}
use Rattle.gq_rules.proofs.known_state.AbstractState.push.Goals as goal

pub returns-else-len-lt-OPERANDS : goal.returns-else-len-lt-OPERANDS
returns-else-len-lt-OPERANDS c = grind (arith, common_steps)
