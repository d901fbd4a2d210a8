use Rattle.std.proofs.Common.{length}
use Rattle.gq_sizes.proofs.gives.+ask_above.Given as goal

abbrev pub decreases-ask_above : goal.decreases-ask_above
decreases-ask_above l = length l.upgrades.now
