-- The greatest of what is measured, where the last point is yet to be measured.
use Rattle.std.specs.Prelude.{◌≡◌, max, List}
use Rattle.gq_model.specs.machine.Lists.{greatest}
use Rattle.gq_model.specs.rules.Kinds.{AbstractState}
use Rattle.gq_caps.specs.Measured.{total_of}
use Rattle.gq_caps.specs.declared.totals.Measure.{Measure}
use Rattle.gq_caps.specs.declared.totals.Totals.{Totals}
use Rattle.gq_rules.specs.List_maxima.{measure_of}

-- the greatest of what was known and of these points, once the state after them is measured too
abbrev pub PeaksWith : Totals → Totals → List AbstractState → AbstractState → Type 0
PeaksWith new old states after =
    (m : Measure) → max (total_of new m) (measure_of m after) ≡ max (max (total_of old m) (greatest (measure_of m) states)) (measure_of m after)
