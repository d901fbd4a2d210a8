use Rattle.std.proofs.Common.{rules}
use Rattle.gq_caps.proofs.kind.Kind.lent.Goals as goal

pub returns-in-Link-clause-caps : goal.returns-in-Link-clause-caps
returns-in-Link-clause-caps c = search rules

pub returns-in-Link-clause-ram : goal.returns-in-Link-clause-ram
returns-in-Link-clause-ram c = search rules
