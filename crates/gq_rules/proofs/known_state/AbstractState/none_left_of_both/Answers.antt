use Rattle.std.proofs.Common.{rules}
use Rattle.gq_rules.proofs.known_state.AbstractState.none_left_of_both.Goals as goal

pub returns : goal.returns
returns c = search rules
