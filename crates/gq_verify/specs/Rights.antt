-- Statements that break no rule.
use Rattle.std.specs.Prelude.{◌≡◌, Ok}
use Rattle.gq_model.specs.machine.Program.{Statements}
use Rattle.gq_model.specs.rules.Kinds.{AbstractState, Context}
use Rattle.gq_model.specs.rules.Flow.{flow}

-- a list of statements breaks no rule from this state on
abbrev pub IsRight : Context → AbstractState → Statements → Type 0
IsRight c s b = (t : AbstractState) × (flow c s b ≡ Ok t)
