use Rattle.std.proofs.Common.{rules}
use Rattle.gq_tariff.proofs.price.price_class.Goals as goal

pub returns : goal.returns
returns c = search rules
