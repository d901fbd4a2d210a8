use Rattle.std.proofs.Common.{rules}
use Rattle.gq_rules.proofs.context.Context.judged.Goals as goal

pub returns : goal.returns
returns c = search rules
