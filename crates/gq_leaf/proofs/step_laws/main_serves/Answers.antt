-- The end of `main` of a leaf that provides a service or has signals.
use Rattle.gq_leaf.proofs.Section_end_step as ending
use Rattle.gq_leaf.proofs.step_laws.main_serves.Goals as goal

pub returns : goal.returns
returns c system f s x d l bs g lawful st active end current reacting some e now =
    ending.main_serves system f s x d l bs lawful st active end g current reacting some e now
