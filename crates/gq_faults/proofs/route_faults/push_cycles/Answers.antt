use Rattle.gq_faults.proofs.route_faults.push_cycles.Goals as goal

pub returns : goal.returns
returns c = c.push_all_reached.ensures
