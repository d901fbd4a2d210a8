-- What the commands of this crate write for a scenario's text.
use Rattle.std.specs.Prelude.{ℕ, Bool, true, false, List, Option, Ok, Err}
use Rattle.gq_model.specs.machine.Run.{Acts}
use Rattle.gq_model.specs.machine.Scenario.{Scenario}
use Rattle.gq_model.specs.texts.Turns.{Turned, turned}
use Rattle.gq_load.specs.Load.{loaded}
use Rattle.gq_reports.specs.Whole.{Written, refused_with, turn_fault_text, with_scenario}
use Rattle.gq_traces.specs.First_turns.{some_turns}
use Rattle.gq_traces.specs.Account_peaks.{peaks_text}
use Rattle.gq_traces.specs.Schedule.{schedule_text}
use Rattle.gq_traces.specs.Account_state.{state_text}
use Rattle.gq_traces.specs.Trace.{trace_text}
use Rattle.gq_traces.specs.declared.step_output.Reporting.{Reporting}
use Rattle.gq_traces.specs.declared.step_output.Reporting.TheVariants.{Changes, All}

-- the turns that bring all work of an accepted scenario to rest, in rounds or by chance, and what all signals give, so many times
abbrev pub turns_written : (seed times : Option ℕ) → List ℕ → Written
turns_written seed times scenario = with_scenario (loaded scenario) (λ s. Ok (schedule_text seed times s))

-- goes on with the turns, settings and signals of a text, or reports its first fault
abbrev pub with_turns : Turned → (Acts → List ℕ) → Written
with_turns (Ok turns) text = Ok (text turns)
with_turns (Err fault) text = Err (refused_with (turn_fault_text fault.0 fault.1))

-- all steps are reported
abbrev pub prints_all : Reporting → Bool
prints_all Changes = false
prints_all All = true

-- what each turn of a run did
abbrev pub trace_from : Bool → Scenario → List ℕ → Written
trace_from all s turns = with_turns (turned s turns) (trace_text all s)

abbrev pub trace_written : Bool → List ℕ → List ℕ → Written
trace_written all scenario turns = with_scenario (loaded scenario) (λ s. trace_from all s turns)

-- each account after the last turn of a run, or after the first so many, and what it is made of
abbrev pub state_from : Option ℕ → Scenario → List ℕ → Written
state_from first s text = with_turns (turned s text) (λ turns. state_text s (some_turns first turns))

abbrev pub state_written : Option ℕ → List ℕ → List ℕ → Written
state_written first scenario turns = with_scenario (loaded scenario) (λ s. state_from first s turns)

-- the greatest use of each account over a run
abbrev pub peaks_from : Scenario → List ℕ → Written
peaks_from s text = with_turns (turned s text) (peaks_text s)

abbrev pub peaks_written : List ℕ → List ℕ → Written
peaks_written scenario turns = with_scenario (loaded scenario) (λ s. peaks_from s turns)
