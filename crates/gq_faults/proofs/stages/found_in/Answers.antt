use Rattle.gq_faults.proofs.stages.found_in.Goals as goal

pub returns : goal.returns
returns c = c.in_ok-push_all.ensures
