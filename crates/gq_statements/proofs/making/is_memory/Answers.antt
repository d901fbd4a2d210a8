use Rattle.std.proofs.Common.{rules}
use Rattle.gq_statements.proofs.making.is_memory.Goals as goal

pub returns-in-Empty : goal.returns-in-Empty
returns-in-Empty c = search rules
