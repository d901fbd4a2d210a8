use Rattle.std.proofs.Common.{rules}
use Rattle.gq_resolve.proofs.unrouted.unrouted.Goals as goal

pub returns-in-Ambiguous : goal.returns-in-Ambiguous
returns-in-Ambiguous c = search rules
