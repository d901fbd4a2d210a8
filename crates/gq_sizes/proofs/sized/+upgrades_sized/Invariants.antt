use Rattle.std.proofs.Common.{length}
use Rattle.gq_sizes.proofs.sized.+upgrades_sized.Given as goal

abbrev pub decreases-upgrades_sized : goal.decreases-upgrades_sized
decreases-upgrades_sized l = length l.made.now
