use Rattle.gq_sizes.proofs.unending.+is_along.Given as goal

abbrev pub decreases-is_along : goal.decreases-is_along
decreases-is_along l = l.starts
