-- What a walk through a section answers.
use Rattle.std.specs.Prelude.{Result, Ok, Err}
use Rattle.gq_model.specs.rules.Kinds.{AbstractState}
use Rattle.gq_model.specs.rules.Flow.{Flowed}
use Rattle.gq_rules.specs.declared.broken.Broken.{Broken}

-- the state at the end, or the rule that is broken first and its place
abbrev pub reached : Result AbstractState Broken → Flowed
reached (Ok s) = Ok s
reached (Err broken) = Err (broken.rule, broken.place)
