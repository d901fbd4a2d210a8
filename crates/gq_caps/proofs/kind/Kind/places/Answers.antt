use Rattle.std.proofs.Common.{rules}
use Rattle.gq_caps.proofs.kind.Kind.places.Goals as goal

pub returns-in-Pool-clause-places : goal.returns-in-Pool-clause-places
returns-in-Pool-clause-places c = search rules
