use Rattle.std.proofs.Common.{arith}
use Rattle.std.proofs.lemmas.Grind.{common_steps}
use Rattle.gq_rules.proofs.known_state.AbstractState.pop.Goals as goal

pub returns-clause-popped : goal.returns-clause-popped
returns-clause-popped c = grind (arith, common_steps)
