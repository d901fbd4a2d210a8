use Rattle.gq_sizes.proofs.needs.+asked_above.Given as goal

abbrev pub decreases-asked_above : goal.decreases-asked_above
decreases-asked_above l = l.count
