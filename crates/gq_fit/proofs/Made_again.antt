-- What was read again, and why a text is refused.
use Rattle.std.proofs.Common.{◌≡◌, ◌≢◌, ◌∙◌, Bool, true, false, List, ℕ, Option, Some, None, Result, Ok, Err, [], ap, ap₂, refl, subst, sym}
use Rattle.std.specs.Prelude.{IfSome, IsOkAnd}
use Rattle.gq_model.specs.machine.Scenario.{Scenario}
use Rattle.gq_scenario.specs.Top_table.{scenario_in}
use Rattle.gq_load.specs.Load_faults.{Prints, PrintsFault, Refuses}
use Rattle.gq_load.specs.Load.{LoadRefusal, loaded, loaded_from, loaded_or, scenario_fault}
use Rattle.gq_load.specs.declared.load_fault.LoadError.{LoadError}
use Rattle.gq_load.specs.declared.load_fault.LoadError.TheVariants as error
use Rattle.gq_load.specs.declared.load_fault.LoadFault.{LoadFault}
use Rattle.gq_sizes.specs.Judged_scenario.{fault_without, judged_without, judged_without_from}
use Rattle.gq_sizes.specs.Least.{NoneShort, shorts_of, sized}
use Rattle.gq_sizes.specs.Endless.{IsWithoutEnd}
use Rattle.gq_fit.specs.Fitted.{HasReason, IsBefore, IsFitted, IsFittedWhole, IsNoFitWhole, IsOwnFit, IsOwnFitWhole, IsReason, IsReasonWhole}
use Rattle.gq_fit.specs.Fitted.{fit_fault_of, made_fault_of}
use Rattle.gq_fit.specs.Value_edits.{DiffersInValues}
use Rattle.gq_fit.specs.declared.fit_fault.NoFit.{NoFit}
use Rattle.gq_fit.specs.declared.fit_fault.NoFit.TheVariants as reasons
use Rattle.gq_fit.specs.declared.fit_fault.FitFault.{FitFault}
use Rattle.gq_fit.specs.declared.fit_fault.FitFault.TheVariants as faults
use Rattle.gq_fit.specs.declared.fit_fault.MakeError.{MakeError}
use Rattle.gq_fit.specs.declared.fit_fault.MakeError.TheVariants as errors
use Rattle.gq_fit.specs.Reasons.{IsDue, quantities_by}
use Rattle.gq_fit.specs.internal.Making.{IsCodeFault, IsDueError, IsEndlessFault, IsShort, IsRefusedBy}
use Rattle.gq_sizes.specs.Least_numbers.{interfaces_least, nodes_least}
use Rattle.gq_sizes.specs.declared.quantity_lines.Least.{Least}

abbrev IsErr : {A B : Type 0} → Result A B → Type 0
IsErr (Ok a) = ⊥
IsErr (Err b) = Unit {0}

-- a scenario that was read and has no fault is loaded; without its quantities it is judged
pub loaded_is : (text : List ℕ) (s : Scenario) → scenario_in text ≡ Ok s → scenario_fault s ≡ None → loaded text ≡ Ok s
loaded_is text s read none = ap loaded_from read ∙ ap (loaded_or s) none

pub judged_is : (text : List ℕ) (s : Scenario) → scenario_in text ≡ Ok s → fault_without s ≡ None → judged_without text ≡ Ok s
judged_is text s read none = ap judged_without_from read ∙ ap (loaded_or s) none

-- one that is loaded has no fault
no_fault : (s : Scenario) (fault : Option LoadRefusal) → loaded_or s fault ≡ Ok s → fault ≡ None
no_fault s None e = refl
no_fault s (Some fault) e = absurd (subst IsErr e (tt {0}))

pub faultless_is : (text : List ℕ) (s : Scenario) → scenario_in text ≡ Ok s → loaded text ≡ Ok s → scenario_fault s ≡ None
faultless_is text s read is = no_fault s (scenario_fault s) (sym (ap loaded_from read) ∙ is)

-- nothing is printed of no fault
pub not_printed : (f : LoadFault) (fault : Option LoadRefusal) → fault ≡ None → Prints f fault → ⊥
not_printed f fault e h = subst (Prints f) e h

-- a fault of a scenario that was read refuses its text
refuses_or : (f : LoadFault) (s : Scenario) (fault : Option LoadRefusal) → Prints f fault → Refuses (error.Fault f) (loaded_or s fault)
refuses_or f s None h = absurd h
refuses_or f s (Some fault) h = h

module _ (text : List ℕ) (s : Scenario) (read : scenario_in text ≡ Ok s) where
  refuses : (f : LoadFault) → Prints f (fault_without s) → Refuses (error.Fault f) (judged_without text)
  refuses f h = subst (Refuses (error.Fault f)) (sym (ap judged_without_from read)) (refuses_or f s (fault_without s) h)

  pub load_reason : (e : LoadError) → PrintsFault e (fault_without s) → IsReason (fit_fault_of e) text
  load_reason error.Memory h = tt {0}
  load_reason (error.Fault f) h = refuses f h

  pub load_reason_whole : (e : LoadError) → PrintsFault e (fault_without s) → IsReasonWhole (fit_fault_of e) text
  load_reason_whole error.Memory h = tt {0}
  load_reason_whole (error.Fault f) h = refuses f h

  module _ (none : fault_without s ≡ None) where
    judged : judged_without text ≡ Ok s
    judged = judged_is text s read none

    pub short_reason : (f : FitFault) (shorts : List ℕ) → shorts ≡ shorts_of s → IsShort f shorts → IsReason f text
    short_reason (faults.Load fault) shorts e h = absurd h
    short_reason (faults.Short lines) shorts e h =
        subst (λ r. IsOkAnd r (λ t. (lines.items ≡ shorts_of t) × (lines.items ≢ []))) (sym judged) (h.0 ∙ e, h.1)
    short_reason (faults.NoFit reason) shorts e h = absurd h
    short_reason faults.Memory shorts e h = tt {0}
    short_reason faults.Write shorts e h = absurd h

    pub made_reason : (interfaces : List (List Least)) (nodes : List Least) → interfaces ≡ interfaces_least s → nodes ≡ nodes_least s → (e : MakeError)
        → NoneShort s → (IsOwnFit text s → ⊥) → IsDueError e (quantities_by s interfaces nodes) → IsReason (made_fault_of e) text
    made_reason interfaces nodes f g errors.Memory h other due = tt {0}
    made_reason interfaces nodes f g (errors.Misfit reason) h other due =
        let due_here = subst (IsDue reason) (ap₂ (quantities_by s) f g) due in
        subst (λ r. IsOkAnd r (HasReason (reasons.Misfit reason) text)) (sym judged)
        (record { none_short = h; why = record { other = other; due = due_here } })

    whole_reason : (reason : NoFit) → IsNoFitWhole reason text s → IsReasonWhole (faults.NoFit reason) text
    whole_reason reason h = subst (λ r. IsOkAnd r (IsNoFitWhole reason text)) (sym judged) h

    pub made_reason_whole : (e : MakeError) → (IsOwnFitWhole text s → ⊥) → IsReasonWhole (made_fault_of e) text
    made_reason_whole errors.Memory other = tt {0}
    made_reason_whole (errors.Misfit reason) other = whole_reason (reasons.Misfit reason) other

    pub code_reason : (f : FitFault) → IsCodeFault f s → IsReasonWhole f text
    code_reason (faults.NoFit (reasons.Code leaf)) h = whole_reason (reasons.Code leaf) h
    code_reason (faults.NoFit (reasons.Endless name)) h = absurd h
    code_reason (faults.NoFit (reasons.Misfit reason)) h = absurd h
    code_reason (faults.Load fault) h = absurd h
    code_reason (faults.Short lines) h = absurd h
    code_reason faults.Memory h = tt {0}
    code_reason faults.Write h = absurd h

    pub ends_reason : (f : FitFault) (endless : Option (List ℕ)) → IsEndlessFault f endless → IfSome endless (IsWithoutEnd s) → IsReasonWhole f text
    ends_reason (faults.NoFit (reasons.Endless name)) endless h some =
        whole_reason (reasons.Endless name) (subst (λ e. IfSome e (IsWithoutEnd s)) h some)
    ends_reason (faults.NoFit (reasons.Code leaf)) endless h some = absurd h
    ends_reason (faults.NoFit (reasons.Misfit reason)) endless h some = absurd h
    ends_reason (faults.Load fault) endless h some = absurd h
    ends_reason (faults.Short lines) endless h some = absurd h
    ends_reason faults.Memory endless h some = tt {0}
    ends_reason faults.Write endless h some = absurd h

-- a text that is refused when it is read
pub first_reason : (f : FitFault) (text : List ℕ) → IsRefusedBy f (judged_without text) → IsReason f text
first_reason (faults.Load fault) text h = h
first_reason (faults.Short lines) text h = absurd h
first_reason (faults.NoFit reason) text h = absurd h
first_reason faults.Memory text h = tt {0}
first_reason faults.Write text h = absurd h

pub first_reason_whole : (f : FitFault) (text : List ℕ) → IsRefusedBy f (judged_without text) → IsReasonWhole f text
first_reason_whole (faults.Load fault) text h = h
first_reason_whole (faults.Short lines) text h = absurd h
first_reason_whole (faults.NoFit reason) text h = absurd h
first_reason_whole faults.Memory text h = tt {0}
first_reason_whole faults.Write text h = absurd h

-- NO WRITE FAILED

pub load_before : (e : LoadError) → IsBefore (fit_fault_of e)
load_before error.Memory = tt {0}
load_before (error.Fault f) = tt {0}

pub made_before : (e : MakeError) → IsBefore (made_fault_of e)
made_before errors.Memory = tt {0}
made_before (errors.Misfit reason) = tt {0}

pub short_before : (f : FitFault) (shorts : List ℕ) → IsShort f shorts → IsBefore f
short_before (faults.Load fault) shorts h = tt {0}
short_before (faults.Short lines) shorts h = tt {0}
short_before (faults.NoFit reason) shorts h = tt {0}
short_before faults.Memory shorts h = tt {0}
short_before faults.Write shorts h = h

pub first_before : (f : FitFault) (verdict : Result Scenario LoadRefusal) → IsRefusedBy f verdict → IsBefore f
first_before (faults.Load fault) verdict h = tt {0}
first_before (faults.Short lines) verdict h = tt {0}
first_before (faults.NoFit reason) verdict h = tt {0}
first_before faults.Memory verdict h = tt {0}
first_before faults.Write verdict h = h

pub code_before : (f : FitFault) (s : Scenario) → IsCodeFault f s → IsBefore f
code_before (faults.NoFit reason) s h = tt {0}
code_before (faults.Load fault) s h = tt {0}
code_before (faults.Short lines) s h = tt {0}
code_before faults.Memory s h = tt {0}
code_before faults.Write s h = h

pub ends_before : (f : FitFault) (endless : Option (List ℕ)) → IsEndlessFault f endless → IsBefore f
ends_before (faults.NoFit reason) endless h = tt {0}
ends_before (faults.Load fault) endless h = tt {0}
ends_before (faults.Short lines) endless h = tt {0}
ends_before faults.Memory endless h = tt {0}
ends_before faults.Write endless h = h

-- TEXTS THAT FIT AS THEY ARE

-- a text with no change
pub unchanged : (with_gifts : Bool) (text : List ℕ) → DiffersInValues with_gifts text text
unchanged with_gifts text = record { changes = []; last = text; was = refl; is = refl; values = refl; places = refl }

pub is_fitted : (text made : List ℕ) (s : Scenario) → scenario_in text ≡ Ok s → fault_without s ≡ None → made ≡ text → IsOwnFit text s → IsFitted text made
is_fitted text made s read none same fit =
    subst (IsFitted text) (sym same) (record {
      scenario = s;
      judged = judged_is text s read none;
      fits = fit.accepted ∙ ap Ok fit.sized.same;
      least = ap sized (sym fit.sized.same);
      layout = unchanged false text;
    })

pub is_fitted_whole : (text made : List ℕ) (s : Scenario) → scenario_in text ≡ Ok s → fault_without s ≡ None → made ≡ text → IsOwnFitWhole text s
    → IsFittedWhole text made
is_fitted_whole text made s read none same own =
    subst (IsFittedWhole text) (sym same) (record {
      before = s;
      judged = judged_is text s read none;
      scenario = s;
      accepted = own.fit.accepted;
      refitted = record { shape = refl; programs = refl };
      least = sym own.fit.sized.same;
      gives = own.gives;
      layout = unchanged true text;
    })
