-- What makes leaves run, as code has it.
use Rattle.gq_model.specs.rules.Use as model
use Rattle.gq_model.specs.rules.Use.{The_start, A_signal}
use Rattle.gq_budget.specs.declared.cause.Cause.{Cause}
use Rattle.gq_budget.specs.declared.cause.Cause.TheVariants.{Start, Signal}

abbrev pub cause_of : Cause → model.Cause
cause_of Start = The_start
cause_of (Signal leaf i) = A_signal leaf i
