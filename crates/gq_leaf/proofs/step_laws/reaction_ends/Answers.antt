-- The end of the section for a signal.
use Rattle.gq_leaf.proofs.Section_end_step as ending
use Rattle.gq_leaf.proofs.step_laws.reaction_ends.Goals as goal

pub returns : goal.returns
returns c system f s x d l bs i g lawful st active end current reacting e now =
    ending.reaction_ends system f s x d l bs lawful st active end g i current reacting e now
