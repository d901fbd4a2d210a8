use Rattle.std.proofs.Common.{length}
use Rattle.gq_fit.proofs.quantity_edits.+lacks_caps.Given as goal

abbrev pub decreases-lacks_caps : goal.decreases-lacks_caps
decreases-lacks_caps l = length l.upgrades.now
