-- A scenario that is read and resolved, but not judged.
use Rattle.std.specs.Prelude.{List, ℕ, Option, Result, Ok, Err}
use Rattle.gq_model.specs.machine.Lists.{or_first}
use Rattle.gq_model.specs.machine.Scenario.{Scenario, components}
use Rattle.gq_model.specs.rules.Resolve.{unresolved}
use Rattle.gq_model.specs.rules.Accept.{not_resolved}
use Rattle.gq_scenario.specs.Top_table.{ReadFault, scenario_in}
use Rattle.gq_load.specs.Load.{LoadRefusal, Unread, sources_fault, refused, loaded_or}

-- texts and codes have to be programs, and routes have to lead somewhere; no program is judged
abbrev pub unverified_fault : Scenario → Option LoadRefusal
unverified_fault s = or_first (sources_fault (components s)) (refused (not_resolved (unresolved s)))

abbrev pub unverified_from : Result Scenario ReadFault → Result Scenario LoadRefusal
unverified_from (Ok s) = loaded_or s (unverified_fault s)
unverified_from (Err fault) = Err (Unread fault)

-- the scenario of a text, or the first such fault
abbrev pub unverified : List ℕ → Result Scenario LoadRefusal
unverified text = unverified_from (scenario_in text)
