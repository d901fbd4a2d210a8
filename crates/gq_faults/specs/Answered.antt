-- What is reported and answered of the text of a scenario.
use Rattle.std.specs.Prelude.{◌≡◌, ℕ, List, Option, Result, IfNone, IfOk, IfSome, IsOk}
use Rattle.gq_output.specs.declared.counted.Counted.{Counted}
use Rattle.gq_load.specs.Load_faults.{Prints}
use Rattle.gq_load.specs.Load.{loaded}
use Rattle.gq_load.specs.declared.load_fault.LoadFault.{LoadFault}
use Rattle.gq_faults.specs.First_stage_faults.{fault_lines, refusal_of}
use Rattle.gq_faults.specs.Reported_faults.{Reports}
use Rattle.gq_faults.specs.declared.report_error.ReportError.{ReportError}

pub record ReportsText {W : Type 0} (contents : W → Option (List ℕ)) (path text : List ℕ) (old new : Counted W)
    (result : Result (Option LoadFault) ReportError) : Type 0 where
  -- all of its faults that are reported at once were written, and nothing else
  pub reported : Reports contents path (fault_lines text) old new result
  -- where there is no answer, the scenario is accepted, and nothing was written
  pub accepted : IfOk result (λ fault. IfNone fault (IsOk (loaded text) × (new ≡ old)))
  -- the answer is why it is refused
  pub refused : IfOk result (λ fault. IfSome fault (λ f. Prints f (refusal_of (loaded text))))
