-- What is printed where a scenario has no fit.
use Rattle.std.specs.Prelude.{ℕ, ◌-◌, if◌then◌else◌, List, ◌++◌, length, take, Option, Some, None, codes, decimal}
use Rattle.std.specs.Str.{is_utf8}
use Rattle.gq_load.specs.Load_faults.{load_fault_text}
use Rattle.gq_scenario.specs.Fault_words.{key_text}
use Rattle.gq_fit.specs.declared.fit_fault.NoFit.{NoFit}
use Rattle.gq_fit.specs.declared.fit_fault.NoFit.TheVariants.{Endless, Code}
use Rattle.gq_fit.specs.declared.fit_fault.NoFit.TheVariants as reasons
use Rattle.gq_fit.specs.declared.fit_fault.Misfit.{Misfit}
use Rattle.gq_fit.specs.declared.fit_fault.Misfit.TheVariants.{NoPlace, TooLarge, Refused, Differs}
use Rattle.gq_fit.specs.declared.fit_fault.FitFault.{FitFault}
use Rattle.gq_fit.specs.declared.fit_fault.FitFault.TheVariants as faults

-- a least number, where one is enough
abbrev pub least_text : Option ℕ → List ℕ
least_text None = codes "none"
least_text (Some n) = decimal n

-- lines without the last line feed
abbrev pub short_text : List ℕ → List ℕ
short_text lines = let prefix = take (length lines - 1) lines in if is_utf8 prefix then prefix else codes "short"

abbrev pub misfit_text : Misfit → List ℕ
misfit_text (NoPlace key name) = codes "no place for " ++ key_text key ++ codes " of " ++ name
misfit_text (TooLarge key name least) = codes "too large " ++ key_text key ++ codes " of " ++ name ++ codes " least " ++ least_text least
misfit_text (Refused fault) = codes "the fitted text is refused: " ++ load_fault_text fault
misfit_text Differs = codes "the fitted text has other quantities"

abbrev pub no_fit_text : NoFit → List ℕ
no_fit_text (Endless name) = codes "none for " ++ name
no_fit_text (Code leaf) = codes "code of " ++ leaf
no_fit_text (reasons.Misfit reason) = misfit_text reason

abbrev pub fit_fault_text : FitFault → List ℕ
fit_fault_text (faults.Load fault) = load_fault_text fault
fit_fault_text (faults.Short lines) = codes "no fit\n" ++ short_text lines.items
fit_fault_text (faults.NoFit reason) = codes "no fit\n" ++ no_fit_text reason
fit_fault_text faults.Memory = codes "host memory refused"
fit_fault_text faults.Write = codes "file fault"
