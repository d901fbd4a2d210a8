use Rattle.std.proofs.Common.{rules}
use Rattle.gq_tariff.proofs.price.price_caps.Goals as goal

pub returns-in-Block : goal.returns-in-Block
returns-in-Block c = search rules
