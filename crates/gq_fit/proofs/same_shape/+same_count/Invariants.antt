use Rattle.std.proofs.Common.{length}
use Rattle.gq_fit.proofs.same_shape.+same_count.Given as goal

abbrev pub decreases-same_count : goal.decreases-same_count
decreases-same_count l = length l.a.now
