-- What is written of a scenario's text with the least quantities in place of its own.
use Rattle.std.specs.Prelude.{◌≡◌, ◌≢◌, ℕ, Bool, true, false, ◌&&◌, List, [], Option, Result, Ok, Err, IsOkAnd, OnOk, IfErr}
use Rattle.std.specs.Io.KnownBytes.{Appends}
use Rattle.gq_output.specs.declared.counted.Counted.{Counted}
use Rattle.gq_output.specs.Writer_failures.{written_to, failures_of}
use Rattle.gq_output.specs.Writes.{IsPrefix, IsRaised}
use Rattle.gq_model.specs.machine.Lists.{any_of}
use Rattle.gq_model.specs.machine.Program.{text_eq}
use Rattle.gq_model.specs.machine.Scenario.{Component, Scenario, Source, As_text, As_code, components}
use Rattle.gq_load.specs.Load.{loaded}
use Rattle.gq_load.specs.Load_faults.{Refuses}
use Rattle.gq_load.specs.declared.load_fault.LoadError.{LoadError}
use Rattle.gq_load.specs.declared.load_fault.LoadError.TheVariants as error
use Rattle.gq_sizes.specs.Endless.{IsWithoutEnd}
use Rattle.gq_sizes.specs.Gives.{GivesLeast}
use Rattle.gq_sizes.specs.Judged_scenario.{judged_without}
use Rattle.gq_sizes.specs.Least.{IsSized, NoneShort, shorts_of, sized}
use Rattle.gq_fit.specs.Refitted.{IsRefitted}
use Rattle.gq_fit.specs.Value_edits.{DiffersInValues}
use Rattle.gq_fit.specs.Reasons.{IsDue, quantities}
use Rattle.gq_fit.specs.declared.fit_fault.Misfit.{Misfit}
use Rattle.gq_fit.specs.declared.fit_fault.NoFit.{NoFit}
use Rattle.gq_fit.specs.declared.fit_fault.NoFit.TheVariants as reasons
use Rattle.gq_fit.specs.declared.fit_fault.MakeError.{MakeError}
use Rattle.gq_fit.specs.declared.fit_fault.MakeError.TheVariants as errors
use Rattle.gq_fit.specs.declared.fit_fault.FitFault.{FitFault}
use Rattle.gq_fit.specs.declared.fit_fault.FitFault.TheVariants as faults

-- TEXTS THAT FIT

-- A text fits one whose scenario is judged without its quantities: its scenario is that one with the least quantities, and is accepted; its own least
-- quantities are those that it has; and the two texts differ in the values of quantities alone.
pub record IsFitted (old new : List ℕ) : Type 0 where
  pub scenario : Scenario
  pub judged : judged_without old ≡ Ok scenario
  pub fits : loaded new ≡ Ok (sized scenario)
  pub least : sized (sized scenario) ≡ sized scenario
  pub layout : DiffersInValues false old new

-- With its donations a text fits one whose scenario is judged without its quantities: its scenario is that one but for quantities and what `open` and `upgrade`
-- give, and is accepted; its least quantities are those that it has; its statements give just what its interfaces ask, and these ask up to each level just what
-- sessions need; and the two texts differ in the values of quantities and in what statements give alone.
pub record IsFittedWhole (old new : List ℕ) : Type 0 where
  pub before : Scenario
  pub judged : judged_without old ≡ Ok before
  pub scenario : Scenario
  pub accepted : loaded new ≡ Ok scenario
  pub refitted : IsRefitted before scenario
  pub least : sized scenario ≡ scenario
  pub gives : GivesLeast scenario
  pub layout : DiffersInValues true old new

-- TEXTS THAT FIT AS THEY ARE

-- a text is accepted with this scenario, which has its least quantities
pub record IsOwnFit (text : List ℕ) (s : Scenario) : Type 0 where
  pub accepted : loaded text ≡ Ok s
  pub sized : IsSized s s

-- and its statements give just what its interfaces ask
pub record IsOwnFitWhole (text : List ℕ) (s : Scenario) : Type 0 where
  pub fit : IsOwnFit text s
  pub gives : GivesLeast s

-- WHY NO TEXT IS WRITTEN

abbrev pub is_code : Source → Bool
is_code (As_text bytes) = false
is_code (As_code bytes) = true

abbrev pub is_coded : List ℕ → Component → Bool
is_coded name c = is_code c.node.source && text_eq name c.node.name

-- a leaf of this name has its program as code
abbrev pub HasCode : List ℕ → Scenario → Type 0
HasCode name s = any_of (is_coded name) (components s) ≡ true

-- the least quantities of a scenario can't stand in its text: it does not fit as it is, and the reason is due to one of these quantities, if it is due to any
pub record IsMisfit (reason : Misfit) (text : List ℕ) (s : Scenario) : Type 0 where
  pub other : IsOwnFit text s → ⊥
  pub due : IsDue reason (quantities s s)

-- of a scenario whose donations stay there is no other reason
abbrev pub IsNoFit : NoFit → List ℕ → Scenario → Type 0
IsNoFit (reasons.Misfit reason) text s = IsMisfit reason text s
IsNoFit _ text s = ⊥

-- with its donations also that a leaf's program is code, or that sessions hold one another without end
abbrev pub IsNoFitWhole : NoFit → List ℕ → Scenario → Type 0
IsNoFitWhole (reasons.Misfit reason) text s = IsOwnFitWhole text s → ⊥
IsNoFitWhole (reasons.Code leaf) text s = HasCode leaf s
IsNoFitWhole (reasons.Endless name) text s = IsWithoutEnd s name

-- none of its `open` statements is short, and there is a reason
pub record HasReason (reason : NoFit) (text : List ℕ) (s : Scenario) : Type 0 where
  pub none_short : NoneShort s
  pub why : IsNoFit reason text s

-- why no text was written to its end: a rule that no quantity decides is broken, an `open` is short, as these lines say, or none is and there is another reason
abbrev pub IsReason : FitFault → List ℕ → Type 0
IsReason (faults.Load fault) text = Refuses (error.Fault fault) (judged_without text)
IsReason (faults.Short lines) text = IsOkAnd (judged_without text) (λ s. (lines.items ≡ shorts_of s) × (lines.items ≢ []))
IsReason (faults.NoFit reason) text = IsOkAnd (judged_without text) (HasReason reason text)
IsReason faults.Memory text = Unit {0}
IsReason faults.Write text = Unit {0}

-- the same of a text with its donations, of which no `open` stays short
abbrev pub IsReasonWhole : FitFault → List ℕ → Type 0
IsReasonWhole (faults.Load fault) text = Refuses (error.Fault fault) (judged_without text)
IsReasonWhole (faults.Short lines) text = ⊥
IsReasonWhole (faults.NoFit reason) text = IsOkAnd (judged_without text) (IsNoFitWhole reason text)
IsReasonWhole faults.Memory text = Unit {0}
IsReasonWhole faults.Write text = Unit {0}

-- a refusal to load as a fault of the command, and why no text was made
abbrev pub fit_fault_of : LoadError → FitFault
fit_fault_of error.Memory = faults.Memory
fit_fault_of (error.Fault fault) = faults.Load fault

abbrev pub made_fault_of : MakeError → FitFault
made_fault_of errors.Memory = faults.Memory
made_fault_of (errors.Misfit reason) = faults.NoFit (reasons.Misfit reason)

-- nothing was to be written: the fault is no failed write
abbrev pub IsBefore : FitFault → Type 0
IsBefore (faults.Load fault) = Unit {0}
IsBefore (faults.Short lines) = Unit {0}
IsBefore (faults.NoFit reason) = Unit {0}
IsBefore faults.Memory = Unit {0}
IsBefore faults.Write = ⊥

-- a text of which this holds was written whole
pub record WritesSome (fits : List ℕ → Type 0) (before after : Option (List ℕ)) : Type 0 where
  pub text : List ℕ
  pub fitted : fits text
  pub written : Appends before after text

-- a prefix of such a text was written
pub record WritesPart (fits : List ℕ → Type 0) (before after : Option (List ℕ)) : Type 0 where
  pub text : List ℕ
  pub fitted : fits text
  pub written : IsPrefix before after text

-- a command writes a text of which this holds, for the text of a scenario
pub record WritesFit {W A : Type 0} (contents : W → Option (List ℕ)) (fits : List ℕ → Type 0) (why : FitFault → List ℕ → Type 0) (scenario : List ℕ)
    (old new : Counted W) (result : Result A FitFault) : Type 0 where
  -- such a text was written whole, and nothing else
  pub written : OnOk result (WritesSome fits (written_to contents old) (written_to contents new))
  pub counted : OnOk result (failures_of new ≡ failures_of old)
  -- the scenario is refused, or has no fit; then nothing was written
  pub refused : IfErr result (λ fault. why fault scenario)
  pub silent : IfErr result (λ fault. IsBefore fault → new ≡ old)
  -- a write failed, which was counted, and a prefix of such a text was written
  pub cut : result ≡ Err faults.Write → WritesPart fits (written_to contents old) (written_to contents new)
  pub raised : result ≡ Err faults.Write → IsRaised (failures_of old) (failures_of new)
