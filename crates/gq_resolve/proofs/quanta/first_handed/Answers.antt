use Rattle.std.proofs.Common.{rules}
use Rattle.gq_resolve.proofs.quanta.first_handed.Goals as goal

pub returns-in-Some : goal.returns-in-Some
returns-in-Some c = search rules
