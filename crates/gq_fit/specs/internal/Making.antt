-- What faults say of a text, and of what was made of it.
use Rattle.std.specs.Prelude.{◌≡◌, ◌≢◌, ℕ, List, [], Option, Some, Result, Ok}
use Rattle.gq_model.specs.machine.Scenario.{Scenario}
use Rattle.gq_load.specs.Load_faults.{Refuses}
use Rattle.gq_load.specs.Load.{LoadRefusal, loaded}
use Rattle.gq_load.specs.declared.load_fault.LoadError.TheVariants as error
use Rattle.gq_sizes.specs.Gives.{GivesLeast}
use Rattle.gq_sizes.specs.Least.{sized}
use Rattle.gq_fit.specs.declared.fit_fault.FitFault.{FitFault}
use Rattle.gq_fit.specs.declared.fit_fault.FitFault.TheVariants as faults
use Rattle.gq_fit.specs.declared.fit_fault.NoFit.TheVariants as reasons
use Rattle.gq_sizes.specs.declared.quantity_lines.Least.{Least}
use Rattle.gq_fit.specs.declared.fit_fault.MakeError.{MakeError}
use Rattle.gq_fit.specs.declared.fit_fault.MakeError.TheVariants as errors
use Rattle.gq_fit.specs.Fitted.{HasCode}
use Rattle.gq_fit.specs.Reasons.{IsDue, Quantity}
use Rattle.gq_fit.specs.Refitted.{IsRefitted}

-- a text is refused with this fault
abbrev pub IsRefusedBy : FitFault → Result Scenario LoadRefusal → Type 0
IsRefusedBy (faults.Load fault) judged = Refuses (error.Fault fault) judged
IsRefusedBy (faults.Short lines) judged = ⊥
IsRefusedBy (faults.NoFit reason) judged = ⊥
IsRefusedBy faults.Memory judged = Unit {0}
IsRefusedBy faults.Write judged = ⊥

-- an `open` is short, as these lines say
abbrev pub IsShort : FitFault → List ℕ → Type 0
IsShort (faults.Short lines) shorts = (lines.items ≡ shorts) × (lines.items ≢ [])
IsShort faults.Memory shorts = Unit {0}
IsShort _ shorts = ⊥

-- what was made is accepted, is this scenario but for quantities and amounts, has its least quantities, and gives just what its interfaces ask
pub record IsGiven (made : List ℕ) (old : Scenario) : Type 0 where
  pub scenario : Scenario
  pub accepted : loaded made ≡ Ok scenario
  pub refitted : IsRefitted old scenario
  pub least : sized scenario ≡ scenario
  pub gives : GivesLeast scenario

-- sessions of this interface hold one another without end
abbrev pub IsEndlessFault : FitFault → Option (List ℕ) → Type 0
IsEndlessFault (faults.NoFit (reasons.Endless name)) endless = endless ≡ Some name
IsEndlessFault faults.Memory endless = Unit {0}
IsEndlessFault _ endless = ⊥

-- a leaf's program is code
abbrev pub IsCodeFault : FitFault → Scenario → Type 0
IsCodeFault (faults.NoFit (reasons.Code leaf)) s = HasCode leaf s
IsCodeFault faults.Memory s = Unit {0}
IsCodeFault _ s = ⊥

-- why no text was made: the host refused memory, or it is due to one of these quantities, or to none
abbrev pub IsDueError : MakeError → List Quantity → Type 0
IsDueError errors.Memory all = Unit {0}
IsDueError (errors.Misfit reason) all = IsDue reason all

-- some capabilities are needed at least, or no number of them is enough
pub record IsWanting (least : Least) : Type 0 where
  pub wanted : least.caps ≢ Some 0
