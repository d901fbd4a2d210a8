use Rattle.std.proofs.Common.{length}
use Rattle.gq_sizes.proofs.same.+same_list.Given as goal

abbrev pub decreases-same_list : goal.decreases-same_list
decreases-same_list l = length l.a.now
