-- How a command ends before anything is reported of it.
use Rattle.std.specs.Prelude.{◌≡◌, ◌≢◌, ℕ, List, Option, Result, Ok, Err, OnOk, IfErr, string_bytes}
use Rattle.gq_output.specs.declared.counted.Counted.{Counted}
use Rattle.gq_output.specs.Writer_failures.{failures_of}
use Rattle.gq_output.specs.Writes.{IsRaised}
use Rattle.gq_reports.specs.Command_outcomes.{run_fault_text}
use Rattle.gq_reports.specs.Whole.{refused_with}
use Rattle.gq_reports.specs.declared.run_fault.RunFault.{RunFault}
use Rattle.gq_reports.specs.declared.run_fault.RunFault.TheVariants as faults
use Rattle.gq_cli.specs.Executed.{Asked, IsRefusedBy, ReportsAll, ReportsPart, WritesCut, WritesWhole}
use Rattle.gq_faults.specs.declared.report_error.ReportError.{ReportError}
use Rattle.gq_faults.specs.declared.report_error.ReportError.TheVariants as errors
use Rattle.gq_faults.specs.declared.turn_faults.Refused as refused
use Rattle.gq_faults.specs.declared.turn_faults.Refused.TheVariants as answers
use Rattle.gq_cli.specs.declared.execute.CommandFault.{CommandFault}
use Rattle.gq_cli.specs.declared.execute.CommandFault.TheVariants.{Refused, Memory, Read, Write}

-- the text to write, or the line that refuses it, is known: all was read that is to be read, and there was memory
abbrev pub IsKnown : {A : Type 0} → Result A CommandFault → Type 0
IsKnown (Ok u) = Unit {0}
IsKnown (Err (Refused line)) = Unit {0}
IsKnown (Err Memory) = ⊥
IsKnown (Err Read) = ⊥
IsKnown (Err Write) = Unit {0}

-- the text was written whole, or it is refused by this line, or a prefix of it was written
abbrev pub Ended : {A : Type 0} → Result A CommandFault → (before after : Option (List ℕ)) → Asked → Type 0
Ended (Ok u) before after asked = WritesWhole asked before after
Ended (Err (Refused line)) before after asked = IsRefusedBy asked (string_bytes line)
Ended (Err Memory) before after asked = ⊥
Ended (Err Read) before after asked = ⊥
Ended (Err Write) before after asked = WritesCut asked before after

-- nothing was wrong and nothing was written, or all that is wrong was written before the texts are refused by this line, or not all of it could be written
abbrev pub EndedFaults : {A : Type 0} → Result A CommandFault → (before after : Option (List ℕ)) → ℕ → ℕ → Asked → Type 0
EndedFaults (Ok u) before after m n asked = WritesWhole asked before after
EndedFaults (Err (Refused line)) before after m n asked = IsRefusedBy asked (string_bytes line) × ReportsAll asked before after
EndedFaults (Err Memory) before after m n asked = ⊥
EndedFaults (Err Read) before after m n asked = ⊥
EndedFaults (Err Write) before after m n asked = ReportsPart asked before after m n

-- why a command was not done is why what it calls was not: with the line of a refusal, or host memory for that line was refused
abbrev pub IsReportedAs : RunFault → CommandFault → Type 0
IsReportedAs f (Refused line) = (f ≢ faults.Memory) × (f ≢ faults.Write) × (string_bytes line ≡ refused_with (run_fault_text f))
IsReportedAs f Memory = f ≢ faults.Write
IsReportedAs f Read = ⊥
IsReportedAs f Write = f ≡ faults.Write

-- no write failed
abbrev pub IsSilent : CommandFault → Type 0
IsSilent (Refused line) = Unit {0}
IsSilent Memory = Unit {0}
IsSilent Read = Unit {0}
IsSilent Write = ⊥

-- what a command leaves of its writer: no failure where it was done, nothing written where no write failed, and else a failure that was counted
pub record LeavesWriter {W A : Type 0} (old new : Counted W) (result : Result A CommandFault) : Type 0 where
  pub counted : OnOk result (failures_of new ≡ failures_of old)
  pub silent : IfErr result (λ f. IsSilent f → new ≡ old)
  pub raised : result ≡ Err Write → IsRaised (failures_of old) (failures_of new)

-- reading failed
abbrev pub IsUnread : CommandFault → Type 0
IsUnread (Refused line) = ⊥
IsUnread Memory = Unit {0}
IsUnread Read = Unit {0}
IsUnread Write = ⊥

-- why not all that is wrong was written, as a fault of the command
abbrev pub IsUntold : ReportError → CommandFault → Type 0
IsUntold errors.Memory fault = fault ≡ Memory
IsUntold errors.Write fault = fault ≡ Write

-- the fault of a run for which a scenario and turns are refused
abbrev pub refusal_fault : refused.Refused → RunFault
refusal_fault (answers.Scenario fault) = faults.Load fault
refusal_fault (answers.Turns fault line) = faults.Turns fault line
