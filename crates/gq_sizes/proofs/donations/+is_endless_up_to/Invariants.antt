use Rattle.gq_sizes.proofs.donations.+is_endless_up_to.Given as goal

abbrev pub decreases-is_endless_up_to : goal.decreases-is_endless_up_to
decreases-is_endless_up_to l = l.level
