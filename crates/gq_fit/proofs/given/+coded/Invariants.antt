use Rattle.std.proofs.Common.{length}
use Rattle.gq_fit.proofs.given.+coded.Given as goal

abbrev pub decreases-coded : goal.decreases-coded
decreases-coded l = length l.components.now
