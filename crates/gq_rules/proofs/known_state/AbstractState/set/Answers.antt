use Rattle.std.proofs.lemmas.List.{map-set}
use Rattle.gq_rules.proofs.known_state.AbstractState.set.Goals as goal

pub returns-in-Own : goal.returns-in-Own
returns-in-Own c = rw (c.set.ensures, ← c.self.view_is, c.in-Own.is, map-set)

pub returns-in-Shared : goal.returns-in-Shared
returns-in-Shared c = rw (c.set-in-Shared.ensures, ← c.self.view_is, c.in-Shared.is, map-set)
