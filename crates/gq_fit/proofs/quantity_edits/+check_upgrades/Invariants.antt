use Rattle.std.proofs.Common.{length}
use Rattle.gq_fit.proofs.quantity_edits.+check_upgrades.Given as goal

abbrev pub decreases-check_upgrades : goal.decreases-check_upgrades
decreases-check_upgrades l = length l.upgrades.now
