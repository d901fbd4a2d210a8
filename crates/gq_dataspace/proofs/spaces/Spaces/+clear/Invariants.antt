use Rattle.gq_dataspace.proofs.spaces.Spaces.+clear.Given as goal

abbrev pub decreases-clear : goal.decreases-clear
decreases-clear l = l.size
