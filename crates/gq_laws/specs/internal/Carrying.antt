-- What else is known of leaves, from one world to another.
use Rattle.std.specs.Prelude.{◌≢◌, ℕ, List}
use Rattle.gq_model.specs.declared.section.Section.{Section}
use Rattle.gq_model.specs.machine.Program.{Statements}
use Rattle.gq_model.specs.machine.World.{Round}
use Rattle.gq_model.specs.rules.Kinds.{AbstractState}
use Rattle.gq_laws.specs.Typing.{Extra}

-- what is known of another leaf than the x-th carries over
abbrev pub Carries : ℕ → Extra → Extra → Type 0
Carries x before after = (y : ℕ) (section : Section) (state : AbstractState) (todo : Statements) (loops : List Round) → y ≢ x → before y section state todo
    loops
    → after y section state todo loops
