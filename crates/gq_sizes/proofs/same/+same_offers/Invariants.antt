use Rattle.std.proofs.Common.{length}
use Rattle.gq_sizes.proofs.same.+same_offers.Given as goal

abbrev pub decreases-same_offers : goal.decreases-same_offers
decreases-same_offers l = length l.a.now
