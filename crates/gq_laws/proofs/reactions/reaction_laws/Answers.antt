use Rattle.gq_laws.proofs.progress.Lasting_world_invariant.{reached_lasts}
use Rattle.gq_laws.proofs.progress.Reactions_bounded.{reacts_within, one_reacts, reaction_ends}
use Rattle.gq_laws.proofs.reactions.reaction_laws.Goals as goal

pub returns-clause-within : goal.returns-clause-within
returns-clause-within c s w sound reached = reacts_within s w (reached_lasts s sound w reached)

pub returns-clause-one : goal.returns-clause-one
returns-clause-one c s w sound reached rest = one_reacts s w (reached_lasts s sound w reached) rest

pub returns-clause-ends : goal.returns-clause-ends
returns-clause-ends c s w sound reached rest = reaction_ends s w (reached_lasts s sound w reached) rest
