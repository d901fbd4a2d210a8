use Rattle.std.proofs.Common.{rules, tests}
use Rattle.gq_asm.proofs.statement_words.shape_with.Goals as goal

pub returns-in-None : goal.returns-in-None
returns-in-None c = search (tests, rules)
