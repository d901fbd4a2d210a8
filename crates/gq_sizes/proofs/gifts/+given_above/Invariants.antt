use Rattle.gq_sizes.proofs.gifts.+given_above.Given as goal

abbrev pub decreases-given_above : goal.decreases-given_above
decreases-given_above l = l.count
