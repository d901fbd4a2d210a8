-- What is written of faults: a line for each with its place, and its details below it.
use Rattle.std.specs.Prelude.{◌≡◌, ℕ, List, [], ◌∷◌, ◌++◌, map, Option, Result, OnOk, OnErr, IfErr, codes, decimal}
use Rattle.std.specs.Io.KnownBytes.{Appends}
use Rattle.gq_output.specs.Writer_failures.{written_to, failures_of}
use Rattle.gq_output.specs.Writes.{IsPrefix, IsRaised}
use Rattle.gq_output.specs.declared.counted.Counted.{Counted}
use Rattle.gq_scenario.specs.Table_keys.{DocumentFault}
use Rattle.gq_scenario.specs.Top_table.{document_text}
use Rattle.gq_faults.specs.Details.{AreDetails}
use Rattle.gq_faults.specs.declared.report_error.ReportError.{ReportError}
use Rattle.gq_faults.specs.declared.report_error.ReportError.TheVariants.{Memory, Write}

-- a place in a file: its path, a line and a column
abbrev pub place_text : List ℕ → ℕ → ℕ → List ℕ
place_text path line column = path ++ codes ":" ++ decimal line ++ codes ":" ++ decimal column ++ codes ": "

-- a fault is reported, at some place with some details
pub record IsReported (path fault text : List ℕ) : Type 0 where
  pub line : ℕ
  pub column : ℕ
  pub details : List ℕ
  pub form : AreDetails details
  pub is : text ≡ place_text path line column ++ fault ++ codes "\n" ++ details

-- these faults are reported, one after the other, and nothing else
abbrev pub AreReported : List ℕ → List (List ℕ) → List ℕ → Type 0
AreReported path [] text = text ≡ []
AreReported path (fault ∷ faults) text =
    (prefix : List ℕ) × (rest : List ℕ) × IsReported path fault prefix × AreReported path faults rest × (text ≡ prefix ++ rest)

-- they were written
pub record WritesFaults (path : List ℕ) (faults : List (List ℕ)) (before after : Option (List ℕ)) : Type 0 where
  pub text : List ℕ
  pub reported : AreReported path faults text
  pub written : Appends before after text

-- a prefix of a text that reports them was written
pub record WritesPrefix (path : List ℕ) (faults : List (List ℕ)) (before after : Option (List ℕ)) : Type 0 where
  pub text : List ℕ
  pub reported : AreReported path faults text
  pub written : IsPrefix before after text

-- who does not report all faults was refused host memory, and no write failed; or a write failed, which was counted
abbrev pub EndsEarly : ReportError → ℕ → ℕ → Type 0
EndsEarly Memory before after = after ≡ before
EndsEarly Write before after = IsRaised before after

-- who reports faults: they were written, and no write failed; or it ended early, and a prefix was written. Before it m writes had failed, and after it n.
pub record Reporting {A : Type 0} (path : List ℕ) (faults : List (List ℕ)) (before after : Option (List ℕ)) (m n : ℕ) (result : Result A ReportError) : Type
    0 where
  pub reported : OnOk result (WritesFaults path faults before after)
  pub counted : OnOk result (n ≡ m)
  pub cut : OnErr result (WritesPrefix path faults before after)
  pub ended : IfErr result (λ fault. EndsEarly fault m n)

-- the same of a writer
abbrev pub Reports : {W A : Type 0} → (W → Option (List ℕ)) → List ℕ → List (List ℕ) → Counted W → Counted W → Result A ReportError → Type 0
Reports contents path faults old new result =
    Reporting path faults (written_to contents old) (written_to contents new) (failures_of old) (failures_of new) result

-- the same of faults of a document
abbrev pub ReportsOf : {W A : Type 0} → (W → Option (List ℕ)) → List ℕ → List DocumentFault → Counted W → Counted W → Result A ReportError → Type 0
ReportsOf contents path faults old new result = Reports contents path (map document_text faults) old new result
