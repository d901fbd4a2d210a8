-- States with the same slots, whatever operands there are.
use Rattle.std.specs.Prelude.{◌≡◌}
use Rattle.gq_model.specs.machine.Program.{Statements}
use Rattle.gq_model.specs.rules.Kinds.{AbstractState, Context}
use Rattle.gq_rules.specs.internal.List_states.{chosen}
use Rattle.gq_verify.specs.Rights.{IsRight}

-- both have the same slots
abbrev pub AreAlike : AbstractState → AbstractState → Type 0
AreAlike s t = chosen s ≡ chosen t

-- from each state with these slots that a list breaks no rule from
abbrev pub FromAlike : Context → AbstractState → Statements → (AbstractState → Type 0) → Type 0
FromAlike c t b P = (s : AbstractState) → AreAlike s t → IsRight c s b → P s
