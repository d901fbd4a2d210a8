use Rattle.std.proofs.Common.{rules}
use Rattle.gq_code.proofs.decode.one_more.Goals as goal

pub returns-then-before-from : goal.returns-then-before-from
returns-then-before-from c = search rules
