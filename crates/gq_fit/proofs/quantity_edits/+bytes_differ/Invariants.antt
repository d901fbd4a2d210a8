use Rattle.std.proofs.Common.{length}
use Rattle.gq_fit.proofs.quantity_edits.+bytes_differ.Given as goal

abbrev pub decreases-bytes_differ : goal.decreases-bytes_differ
decreases-bytes_differ l = length l.upgrades.now
