-- Why a text that fits a scenario was not written to its end, as a fault of the command.
use Rattle.std.proofs.Common.{◌≡◌, ◌≢◌, ◌∙◌, List, ℕ, ◌++◌, Option, Result, Ok, Err, IsOkAnd, refl, ap, subst, codes}
use Rattle.std.specs.Prelude.{string_bytes}
use Rattle.gq_command.specs.declared.command.Fitting.{Fitting}
use Rattle.gq_command.specs.declared.command.Fitting.TheVariants.{Quantities, Donations}
use Rattle.gq_fit.specs.Fitted.{IsBefore, WritesFit}
use Rattle.gq_fit.specs.Fit_words.{fit_fault_text, no_fit_text, short_text}
use Rattle.gq_fit.specs.declared.fit_fault.FitFault.{FitFault}
use Rattle.gq_fit.specs.declared.fit_fault.FitFault.TheVariants as faults
use Rattle.gq_output.specs.declared.counted.Counted.{Counted}
use Rattle.gq_output.specs.Writer_failures.{written_to}
use Rattle.gq_load.specs.Load_faults.{Refuses, load_fault_text}
use Rattle.gq_load.specs.Load.{LoadRefusal as LoadRule}
use Rattle.gq_load.specs.declared.load_fault.LoadFault.{LoadFault}
use Rattle.gq_load.specs.declared.load_fault.LoadError.TheVariants as error
use Rattle.gq_model.specs.machine.Scenario.{Scenario}
use Rattle.gq_sizes.specs.Judged_scenario.{judged_without}
use Rattle.gq_reports.specs.Whole.{refused_with}
use Rattle.gq_cli.specs.Early_command_ends.{Ended, IsKnown, IsSilent, LeavesWriter}
use Rattle.gq_cli.specs.Executed.{IsUnfit, Of_fit, fits, reasons}
use Rattle.gq_cli.specs.declared.execute.CommandFault.{CommandFault}
use Rattle.gq_cli.specs.declared.execute.CommandFault.TheVariants.{Refused, Memory, Read, Write}
use Rattle.gq_cli.specs.internal.Fit_write_ends.{IsReportedFit}

-- THE LINE

module _ (fitting : Fitting) (scenario line : List ℕ) where
  -- a rule is broken which no quantity decides
  rule_line : (judged : Result Scenario LoadRule) (f : LoadFault) → Refuses (error.Fault f) judged → line ≡ refused_with (load_fault_text f)
      → IsUnfit fitting scenario judged line
  rule_line (Ok s) f h e = absurd h
  rule_line (Err fault) f h e = e ∙ ap refused_with h

  -- there is no fit
  no_fit_line : (judged : Result Scenario LoadRule) (P : Scenario → Type 0) (f : FitFault) (why : List ℕ) → IsOkAnd judged P → reasons fitting f scenario
      → line ≡ refused_with (fit_fault_text f) → line ≡ refused_with (codes "no fit\n" ++ why) → IsUnfit fitting scenario judged line
  no_fit_line (Ok s) P f why h reason e begins = record { fault = f; reason = reason; text = e; why = why; begins = begins }
  no_fit_line (Err fault) P f why h reason e begins = absurd h

unfit_line : (fitting : Fitting) (f : FitFault) (scenario line : List ℕ) → reasons fitting f scenario → f ≢ faults.Memory → f ≢ faults.Write
    → line ≡ refused_with (fit_fault_text f) → IsUnfit fitting scenario (judged_without scenario) line
unfit_line Quantities (faults.Load f) scenario line h m u e = rule_line Quantities scenario line (judged_without scenario) f h e
unfit_line Quantities (faults.Short lines) scenario line h m u e =
    no_fit_line Quantities scenario line (judged_without scenario) _ (faults.Short lines) (short_text lines.items) h h e e
unfit_line Quantities (faults.NoFit reason) scenario line h m u e =
    no_fit_line Quantities scenario line (judged_without scenario) _ (faults.NoFit reason) (no_fit_text reason) h h e e
unfit_line Donations (faults.Load f) scenario line h m u e = rule_line Donations scenario line (judged_without scenario) f h e
unfit_line Donations (faults.Short lines) scenario line h m u e = absurd h
unfit_line Donations (faults.NoFit reason) scenario line h m u e =
    no_fit_line Donations scenario line (judged_without scenario) _ (faults.NoFit reason) (no_fit_text reason) h h e e
unfit_line fitting faults.Memory scenario line h m u e = absurd (m refl)
unfit_line fitting faults.Write scenario line h m u e = absurd (u refl)

-- THE WRITER

before : (f : FitFault) → f ≢ faults.Write → IsBefore f
before (faults.Load f) u = tt {0}
before (faults.Short lines) u = tt {0}
before (faults.NoFit reason) u = tt {0}
before faults.Memory u = tt {0}
before faults.Write u = absurd (u refl)

fit_silent : (f : FitFault) (r : CommandFault) → IsReportedFit f r → IsSilent r → IsBefore f
fit_silent f (Refused line) reported silent = before f reported.1
fit_silent f Memory reported silent = before f reported
fit_silent f Read reported silent = absurd reported
fit_silent f Write reported silent = absurd silent

fit_failed : (f : FitFault) (r : CommandFault) → IsReportedFit f r → r ≡ Write → f ≡ faults.Write
fit_failed f r reported e = subst (IsReportedFit f) e reported

same_fault : (a b : CommandFault) → ◌≡◌ {A = Result (Unit {0}) CommandFault} (Err a) (Err b) → a ≡ b
same_fault a b e = cc

-- WHAT IS CALLED WAS NOT DONE

module _ {W : Type 0} (contents : W → Option (List ℕ)) (fitting : Fitting) (scenario : List ℕ) (old new : Counted W) (f : FitFault) (r : CommandFault)
    (reported : IsReportedFit f r) (h : WritesFit {A = Unit {0}} contents (fits fitting scenario) (reasons fitting) scenario old new (Err f)) where
  ends : (r : CommandFault) → IsReportedFit f r → IsKnown {A = Unit {0}} (Err r)
      → Ended {A = Unit {0}} (Err r) (written_to contents old) (written_to contents new) (Of_fit fitting scenario)
  ends (Refused line) reported known = unfit_line fitting f scenario (string_bytes line) h.refused reported.0 reported.1 reported.2
  ends Memory reported known = absurd known
  ends Read reported known = absurd known
  ends Write reported known = h.cut (ap Err reported)

  pub fit_ends : IsKnown {A = Unit {0}} (Err r) → Ended {A = Unit {0}} (Err r) (written_to contents old) (written_to contents new) (Of_fit fitting scenario)
  fit_ends = ends r reported

  pub fit_leaves : LeavesWriter {A = Unit {0}} old new (Err r)
  fit_leaves =
      record {
        counted = tt;
        silent = λ s. h.silent (fit_silent f r reported s);
        raised = λ e. h.raised (ap Err (fit_failed f r reported (same_fault r Write e)));
      }
