use Rattle.std.proofs.Common.{length}
use Rattle.gq_fit.proofs.quantity_edits.+caps_differ.Given as goal

abbrev pub decreases-caps_differ : goal.decreases-caps_differ
decreases-caps_differ l = length l.upgrades.now
