use Rattle.std.proofs.Common.{length}
use Rattle.gq_fit.proofs.same_shape.+same_interfaces.Given as goal

abbrev pub decreases-same_interfaces : goal.decreases-same_interfaces
decreases-same_interfaces l = length l.a.now
