-- What a walk through `main` reports.
use Rattle.std.specs.Prelude.{◌≡◌, List, Result, Ok}
use Rattle.gq_model.specs.machine.Lists.{greatest}
use Rattle.gq_model.specs.rules.Kinds.{AbstractState, Subject}
use Rattle.gq_model.specs.rules.Flow.{flow, points, context, start_of, body, section_flow}
use Rattle.gq_model.specs.declared.section.Section.TheVariants.{Main}
use Rattle.gq_caps.specs.Measured.{total_of}
use Rattle.gq_caps.specs.declared.totals.Measure.{Measure}
use Rattle.gq_caps.specs.declared.totals.Totals.{Totals}
use Rattle.gq_rules.specs.declared.broken.Broken.{Broken}
use Rattle.gq_rules.specs.Flowing.{flowed}
use Rattle.gq_rules.specs.List_maxima.{measure_of}

-- the points of `main`
abbrev pub main_points : Subject → List AbstractState
main_points v = points (context v Main) (start_of v Main) (body v Main)

-- the greatest at a point of `main`
abbrev pub IsMost : Subject → Totals → Type 0
IsMost v t = (m : Measure) → total_of t m ≡ greatest (measure_of m) (main_points v)

-- it is so where `main` breaks no rule
abbrev pub MostWhereRight : Subject → Totals → Type 0
MostWhereRight v t = (s : AbstractState) → flow (context v Main) (start_of v Main) (body v Main) ≡ Ok s → IsMost v t

-- what a walk through `main` to its end answered
abbrev pub MainAnswers : Subject → Result (Unit {0}) Broken → Type 0
MainAnswers v r = (t : AbstractState) × (flowed r t ≡ section_flow v Main)
