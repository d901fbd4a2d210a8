use Rattle.std.proofs.Common.{length}
use Rattle.gq_sizes.proofs.sized.+interfaces_sized.Given as goal

abbrev pub decreases-interfaces_sized : goal.decreases-interfaces_sized
decreases-interfaces_sized l = length l.made.now
