-- Laws of room for replies.
use Rattle.gq_laws.proofs.room.Reply_room_invariant.{start_roomy, kept_roomy}
use Rattle.gq_laws.proofs.room.roomy_worlds.Goals as goal

pub returns-clause-first : goal.returns-clause-first
returns-clause-first c = start_roomy

pub returns-clause-kept : goal.returns-clause-kept
returns-clause-kept c = kept_roomy
