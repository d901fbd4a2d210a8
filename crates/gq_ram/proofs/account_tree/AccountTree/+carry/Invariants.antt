use Rattle.std.proofs.Common.{◌+◌}
use Rattle.gq_ram.proofs.account_tree.AccountTree.+carry.Given as goal

abbrev pub decreases-carry : goal.decreases-carry
decreases-carry l = l.from + l.to
