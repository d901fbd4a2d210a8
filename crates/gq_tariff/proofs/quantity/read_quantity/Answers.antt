use Rattle.std.proofs.Common.{rules}
use Rattle.gq_tariff.proofs.quantity.read_quantity.Goals as goal

pub returns-in-48-to-57 : goal.returns-in-48-to-57
returns-in-48-to-57 c = search rules
