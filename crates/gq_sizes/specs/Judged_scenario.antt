-- The scenario of a text that is judged without its quantities.
use Rattle.std.specs.Prelude.{ℕ, List, Option, Result, Ok, Err}
use Rattle.gq_model.specs.machine.Scenario.{Scenario}
use Rattle.gq_scenario.specs.Top_table.{ReadFault, scenario_in}
use Rattle.gq_scenario.specs.Without_quantities.{unsized}
use Rattle.gq_load.specs.Load.{LoadRefusal, Unread, loaded_or}
use Rattle.gq_load.specs.Unsized_judgement.{unsized_fault}

-- the first fault of a scenario that no quantity decides
abbrev pub fault_without : Scenario → Option LoadRefusal
fault_without s = unsized_fault (unsized s)

abbrev pub judged_without_from : Result Scenario ReadFault → Result Scenario LoadRefusal
judged_without_from (Ok s) = loaded_or s (fault_without s)
judged_without_from (Err fault) = Err (Unread fault)

-- the scenario of a text, or its first fault that no quantity decides
abbrev pub judged_without : List ℕ → Result Scenario LoadRefusal
judged_without text = judged_without_from (scenario_in text)
