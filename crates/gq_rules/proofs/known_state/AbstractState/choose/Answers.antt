use Rattle.std.proofs.Common.{rules}
use Rattle.gq_rules.proofs.known_state.AbstractState.choose.Goals as goal

pub returns-clause-judged : goal.returns-clause-judged
returns-clause-judged c = search rules

pub returns-clause-none : goal.returns-clause-none
returns-clause-none c = search rules
