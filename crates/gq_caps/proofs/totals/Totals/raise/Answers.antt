use Rattle.std.proofs.Common.{rules}
use Rattle.gq_caps.proofs.totals.Totals.raise.Goals as goal

pub returns-clause-raised : goal.returns-clause-raised
returns-clause-raised c = search rules

pub returns-clause-small : goal.returns-clause-small
returns-clause-small c = search rules
