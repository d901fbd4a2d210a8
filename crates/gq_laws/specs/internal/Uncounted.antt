-- The same system in which no resource is counted.
use Rattle.std.specs.Prelude.{[]}
use Rattle.gq_model.specs.machine.Scenario.{System}

abbrev pub uncounted : System → System
uncounted system = record system { counted = [] }
