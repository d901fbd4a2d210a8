-- What is written for a scenario's text.
use Rattle.std.specs.Prelude.{ℕ, List, ◌++◌, Option, Some, None, Ok, Err, codes, decimal}
use Rattle.gq_model.specs.machine.Scenario.{Scenario, components}
use Rattle.gq_load.specs.Load.{loaded}
use Rattle.gq_reports.specs.Whole.{Written, refused_with, with_scenario}
use Rattle.gq_outcomes.specs.Outcomes.{Outcome, outcomes}
use Rattle.gq_outcomes.specs.Text.{nth_outcome, search_text, turns_text}

-- the outcomes of an accepted scenario
abbrev pub outcomes_written : List ℕ → Written
outcomes_written scenario = with_scenario (loaded scenario) (λ s. Ok (search_text (outcomes s)))

abbrev pub turns_of_outcome : Scenario → ℕ → Option Outcome → Written
turns_of_outcome s n None = Err (refused_with (codes "no outcome " ++ decimal n))
turns_of_outcome s n (Some o) = Ok (turns_text (components s) o)

-- the turns with which the n-th outcome of an accepted scenario was found
abbrev pub outcome_turns_written : ℕ → List ℕ → Written
outcome_turns_written n scenario =
    with_scenario (loaded scenario) (λ s. turns_of_outcome s n (nth_outcome n (outcomes s).found))

-- all outcomes, or where a number is given the turns of that one
abbrev pub outcomes_asked : Option ℕ → List ℕ → Written
outcomes_asked None scenario = outcomes_written scenario
outcomes_asked (Some n) scenario = outcome_turns_written n scenario
