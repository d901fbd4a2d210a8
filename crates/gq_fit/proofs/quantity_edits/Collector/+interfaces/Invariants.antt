use Rattle.std.proofs.Common.{length}
use Rattle.gq_fit.proofs.quantity_edits.Collector.+interfaces.Given as goal

abbrev pub decreases-interfaces : goal.decreases-interfaces
decreases-interfaces l = length l.interfaces.now
