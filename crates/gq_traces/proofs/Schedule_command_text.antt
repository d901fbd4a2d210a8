-- What the command writes, from bytes to bytes.
use Rattle.std.proofs.Common.{◌≡◌, ℕ, List, None, Option, Ok, ap, refl}
use Rattle.std.specs.Io.KnownBytes.{Appends}
use Rattle.gq_model.specs.machine.Run.{run}
use Rattle.gq_model.specs.machine.Scenario.{Scenario, system}
use Rattle.gq_model.specs.texts.Turns.{turned}
use Rattle.gq_load.specs.Load.{loaded}
use Rattle.gq_reports.specs.Whole.{with_scenario}
use Rattle.gq_traces.specs.Rest_runs.{RestsUnless, WritesToRest}
use Rattle.gq_traces.specs.Schedule.{acts_given, is_cut, schedule_text, written_lines}
use Rattle.gq_traces.specs.Traces_written.{turns_written}

-- the text of a scenario that was loaded
pub given : (seed times : Option ℕ) (scenario : List ℕ) (s : Scenario) → loaded scenario ≡ Ok s
    → turns_written seed times scenario ≡ Ok (schedule_text seed times s)
given seed times scenario s loads = ap (λ l. with_scenario l (λ r. Ok (schedule_text seed times r))) loads

pub to_rest : (seed times : Option ℕ) (scenario : List ℕ) (s : Scenario) → loaded scenario ≡ Ok s
    → turned s (schedule_text seed times s) ≡ Ok (acts_given (written_lines seed times s))
    → (run (system s) (acts_given (written_lines seed times s))).wrong ≡ None
    → RestsUnless (is_cut seed times s) (run (system s) (acts_given (written_lines seed times s))).world
    → (before after : Option (List ℕ)) → Appends before after (schedule_text seed times s) → WritesToRest seed times scenario before after
to_rest seed times scenario s loads reads right rests before after written =
    record {
      text = schedule_text seed times s;
      rests = record {
        accepted = s;
        loads = loads;
        reports = refl;
        acts = acts_given (written_lines seed times s);
        reads = reads;
        world = (run (system s) (acts_given (written_lines seed times s))).world;
        ends = record { world = refl; right = right };
        rests = rests;
      };
      written = written;
    }
