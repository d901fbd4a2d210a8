use Rattle.std.proofs.Common.{rules}
use Rattle.gq_statements.proofs.byte_statements.is_inside.Goals as goal

pub returns : goal.returns
returns c = search rules
