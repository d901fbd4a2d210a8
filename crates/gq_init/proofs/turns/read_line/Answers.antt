use Rattle.std.proofs.Common.{rules}
use Rattle.gq_init.proofs.turns.read_line.Goals as goal

pub returns-clause-answer : goal.returns-clause-answer
returns-clause-answer c = search rules

pub returns-clause-few : goal.returns-clause-few
returns-clause-few c = search rules
