use Rattle.gq_model.specs.machine.Scenario.{system}
use Rattle.gq_laws.proofs.verified_programs.Sound_systems.{is_resolved}
use Rattle.gq_laws.proofs.verified_programs.Use_chains.{resolved_acyclic}
use Rattle.gq_determined.proofs.thread_positions.Owners_meant.{is_owned, owned_is}
use Rattle.gq_determined.proofs.ownership.owner_laws.Goals as goal

pub returns-clause-owned : goal.returns-clause-owned
returns-clause-owned c s sound z x below owner = is_owned (system s) (resolved_acyclic s (is_resolved s sound.accepted)) z x below owner

pub returns-clause-owner : goal.returns-clause-owner
returns-clause-owner c s sound z x below owned = owned_is (system s) (resolved_acyclic s (is_resolved s sound.accepted)) z x below owned
