use Rattle.std.proofs.Common.{rules}
use Rattle.gq_world.proofs.world.World.report.Goals as goal

pub returns-in-Err-clause-stopped : goal.returns-in-Err-clause-stopped
returns-in-Err-clause-stopped g c = search rules
