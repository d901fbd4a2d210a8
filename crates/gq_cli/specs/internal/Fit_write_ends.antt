-- Why a text that fits a scenario was not written to its end.
use Rattle.std.specs.Prelude.{◌≡◌, ◌≢◌, string_bytes}
use Rattle.gq_reports.specs.Whole.{refused_with}
use Rattle.gq_fit.specs.Fit_words.{fit_fault_text}
use Rattle.gq_fit.specs.declared.fit_fault.FitFault.{FitFault}
use Rattle.gq_fit.specs.declared.fit_fault.FitFault.TheVariants as faults
use Rattle.gq_cli.specs.declared.execute.CommandFault.{CommandFault}
use Rattle.gq_cli.specs.declared.execute.CommandFault.TheVariants.{Refused, Memory, Read, Write}

-- why the command was not done: the line of a refusal, or host memory for that line was refused
abbrev pub IsReportedFit : FitFault → CommandFault → Type 0
IsReportedFit f (Refused line) = (f ≢ faults.Memory) × (f ≢ faults.Write) × (string_bytes line ≡ refused_with (fit_fault_text f))
IsReportedFit f Memory = f ≢ faults.Write
IsReportedFit f Read = ⊥
IsReportedFit f Write = f ≡ faults.Write
