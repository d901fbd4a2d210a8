use Rattle.gq_sizes.proofs.leaf_needs.+least_along.Given as goal

abbrev pub decreases-least_along : goal.decreases-least_along
decreases-least_along l = l.starts
