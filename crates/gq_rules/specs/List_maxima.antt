-- The greatest of what is measured of the own slots at the points of a list of statements.
use Rattle.std.specs.Prelude.{◌≡◌, ℕ, max, List}
use Rattle.gq_model.specs.machine.Lists.{greatest}
use Rattle.gq_model.specs.rules.Kinds.{AbstractState}
use Rattle.gq_caps.specs.Measured.{total_of, measured}
use Rattle.gq_caps.specs.declared.totals.Measure.{Measure}
use Rattle.gq_caps.specs.declared.totals.Totals.{Totals}

-- what is measured of the own slots
abbrev pub measure_of : Measure → AbstractState → ℕ
measure_of m s = measured m s.own

-- the greatest of what was known and of these points
abbrev pub Peaks : Totals → Totals → List AbstractState → Type 0
Peaks new old states = (m : Measure) → total_of new m ≡ max (total_of old m) (greatest (measure_of m) states)
