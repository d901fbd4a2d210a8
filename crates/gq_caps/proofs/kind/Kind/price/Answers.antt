use Rattle.std.proofs.Common.{rules}
use Rattle.gq_caps.proofs.kind.Kind.price.Goals as goal

pub returns-in-Slice-clause-ram : goal.returns-in-Slice-clause-ram
returns-in-Slice-clause-ram c = search rules
