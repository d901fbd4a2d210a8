use Rattle.std.proofs.Common.{rules}
use Rattle.gq_resolve.proofs.component.components.Goals as goal

pub returns : goal.returns
returns c = search rules
