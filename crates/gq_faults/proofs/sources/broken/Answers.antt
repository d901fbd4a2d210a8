use Rattle.std.proofs.Common.{rules}
use Rattle.gq_faults.proofs.sources.broken.Goals as goal

pub returns-in-Ok : goal.returns-in-Ok
returns-in-Ok c = search rules
