-- What is reported and answered of a text by how it is judged.
use Rattle.std.proofs.Common.{◌≡◌, ◌∙◌, ℕ, List, map, Option, Some, None, Result, Ok, Err, refl, ap, sym, subst}
use Rattle.std.specs.Prelude.{IsOk, MatchResult}
use Rattle.toml.specs.Data.{Members}
use Rattle.gq_output.specs.Writer_failures.{failures_of, written_to}
use Rattle.gq_output.specs.declared.counted.Counted.{Counted}
use Rattle.gq_model.specs.machine.Scenario.{Scenario}
use Rattle.gq_scenario.specs.Document.{document_fault}
use Rattle.gq_scenario.specs.Top_table.{ReadFault, document_in, read_from, read_text, scenario_in}
use Rattle.gq_scenario.specs.Fault_words.{IsRead, scenario_fault_text}
use Rattle.gq_scenario.specs.declared.scenario_fault.ScenarioFault.{ScenarioFault}
use Rattle.gq_scenario.specs.declared.scenario_fault.ScenarioError.TheVariants as errors
use Rattle.gq_load.specs.Load_faults.{Prints}
use Rattle.gq_load.specs.Load.{LoadRefusal, fault_text, loaded, loaded_from, loaded_or, scenario_fault}
use Rattle.gq_load.specs.declared.load_fault.LoadFault.{LoadFault}
use Rattle.gq_load.specs.declared.load_fault.LoadFault.TheVariants as load
use Rattle.gq_faults.specs.Answered.{ReportsText}
use Rattle.gq_faults.specs.First_stage_faults.{fault_lines, refusal_of}
use Rattle.gq_faults.specs.Reported_faults.{Reports, Reporting}
use Rattle.gq_faults.specs.declared.report_error.ReportError.{ReportError}
use Rattle.gq_faults.specs.declared.report_error.ReportError.TheVariants.{Memory}
use Rattle.gq_faults.proofs.First_of_texts.{none_of_accepted}
use Rattle.gq_faults.proofs.Reported_fault_prefixes.{no_lines, reports_memory, reported_as}

-- WHY A TEXT IS REFUSED

-- a text that is no document
pub refused_at_stop : (text : List ℕ) (f : ScenarioFault) → MatchResult (document_in text) (λ top. ⊥) (λ why. scenario_fault_text f ≡ read_text why)
    → Prints (load.Scenario f) (refusal_of (loaded text))
refused_at_stop text f h = by (document_in text) h
  where
    by : (r : Result Members ReadFault) → MatchResult r (λ top. ⊥) (λ why. scenario_fault_text f ≡ read_text why)
        → Prints (load.Scenario f) (refusal_of (loaded_from (read_from document_fault r)))
    by (Ok top) h = absurd h
    by (Err why) h = h

-- a text that is read as no scenario
pub refused_as_read : (text : List ℕ) (f : ScenarioFault) → IsRead (Err (errors.Fault f)) (scenario_in text)
    → Prints (load.Scenario f) (refusal_of (loaded text))
refused_as_read text f h = by (scenario_in text) h
  where
    by : (r : Result Scenario ReadFault) → IsRead (Err (errors.Fault f)) r → Prints (load.Scenario f) (refusal_of (loaded_from r))
    by (Ok s) h = absurd h
    by (Err why) h = h

refusal_is : (s : Scenario) (o : Option LoadRefusal) → refusal_of (loaded_or s o) ≡ o
refusal_is s None = refl
refusal_is s (Some fault) = refl

-- a text that is read as a scenario
module _ (text : List ℕ) (s : Scenario) (is : scenario_in text ≡ Ok s) where
  loaded_is : loaded text ≡ loaded_or s (scenario_fault s)
  loaded_is = ap loaded_from is

  pub refused_as_judged : (f : LoadFault) → Prints f (scenario_fault s) → Prints f (refusal_of (loaded text))
  refused_as_judged f h = subst (Prints f) (sym (ap refusal_of loaded_is ∙ refusal_is s (scenario_fault s))) h

  accepted_is : scenario_fault s ≡ None → loaded text ≡ Ok s
  accepted_is none = loaded_is ∙ ap (loaded_or s) none

  -- nothing is reported of one that is accepted
  pub reports_accepted : {W : Type 0} (contents : W → Option (List ℕ)) (path : List ℕ) (out : Counted W) → scenario_fault s ≡ None
      → ReportsText contents path text out out (Ok None)
  reports_accepted contents path out none = record {
    reported = no_lines path (fault_lines text) (written_to contents out) (failures_of out) _
        (ap (map fault_text) (none_of_accepted text s (accepted_is none)));
    accepted = (subst IsOk (sym (accepted_is none)) refl, refl);
    refused = tt;
  }

-- WHAT IS REPORTED

module _ {W : Type 0} (contents : W → Option (List ℕ)) (path text : List ℕ) (old new : Counted W) where
  -- all its lines, and why it is refused
  pub reports_refused : {A : Type 0} (lines : List (List ℕ)) (a : A) (f : LoadFault) → fault_lines text ≡ lines → Prints f (refusal_of (loaded text))
      → Reports contents path lines old new (Ok a) → ReportsText contents path text old new (Ok (Some f))
  reports_refused {A = A} lines a f same prints h =
      let all : Reports {A = A} contents path (fault_lines text) old new (Ok a) = reported_as path lines (fault_lines text) _ _ _ _ (Ok a) (sym same) h in
      record { reported = record { reported = all.reported; counted = all.counted; cut = tt; ended = tt }; accepted = tt; refused = prints }

  -- it ended early
  pub reports_no_more : {A : Type 0} (lines : List (List ℕ)) (e : ReportError) → fault_lines text ≡ lines
      → Reports {A = A} contents path lines old new (Err e) → ReportsText contents path text old new (Err e)
  reports_no_more {A = A} lines e same h =
      let all : Reports {A = A} contents path (fault_lines text) old new (Err e) = reported_as path lines (fault_lines text) _ _ _ _ (Err e) (sym same) h in
      record { reported = record { reported = tt; counted = tt; cut = all.cut; ended = all.ended }; accepted = tt; refused = tt }

-- nothing is reported because the host refuses memory
pub reports_nothing : {W : Type 0} (contents : W → Option (List ℕ)) (path text : List ℕ) (out : Counted W) → ReportsText contents path text out out (Err Memory)
reports_nothing contents path text out = record {
  reported = reports_memory path (fault_lines text) (written_to contents out) (failures_of out);
  accepted = tt;
  refused = tt;
}

-- the path is the file's
pub path_reported : {A : Type 0} (lines : List (List ℕ)) (before after : Option (List ℕ)) (m n : ℕ) (path other : List ℕ) (r : Result A ReportError) → path ≡
    other
    → Reporting path lines before after m n r → Reporting other lines before after m n r
path_reported lines before after m n path other r e h = subst (λ (p : List ℕ). Reporting p lines before after m n r) e h
