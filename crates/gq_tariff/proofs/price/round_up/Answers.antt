use Rattle.std.proofs.Common.{rules}
use Rattle.gq_tariff.proofs.price.round_up.Goals as goal

pub returns-clause-value : goal.returns-clause-value
returns-clause-value c = search rules

pub returns-clause-at_least : goal.returns-clause-at_least
returns-clause-at_least c = search rules
