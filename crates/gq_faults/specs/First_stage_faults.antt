-- All faults of a text that are reported at once: those of the first stage that has any.
use Rattle.std.specs.Prelude.{ℕ, List, [], ◌∷◌, map, Option, Some, None, Result, Ok, Err}
use Rattle.toml.specs.Data.{Members}
use Rattle.gq_model.specs.machine.Scenario.{Scenario}
use Rattle.gq_scenario.specs.Document.{described}
use Rattle.gq_scenario.specs.Top_table.{ReadFault, Bad_document, document_in}
use Rattle.gq_load.specs.Load.{LoadRefusal, Unread, fault_text}
use Rattle.gq_faults.specs.Found_lists.{or_else}
use Rattle.gq_faults.specs.Documents.{document_faults}
use Rattle.gq_faults.specs.Scenario_faults.{scenario_faults}

-- the faults of a document, or of the scenario that it describes
abbrev pub faults_in : Members → List LoadRefusal
faults_in top = or_else (map (λ fault. Unread (Bad_document fault)) (document_faults top)) (scenario_faults (described top))

abbrev pub faults_from : Result Members ReadFault → List LoadRefusal
faults_from (Ok top) = faults_in top
faults_from (Err why) = Unread why ∷ []

-- all faults of a text that are reported at once
abbrev pub faults_of : List ℕ → List LoadRefusal
faults_of text = faults_from (document_in text)

-- their lines, as `check` reports the first
abbrev pub fault_lines : List ℕ → List (List ℕ)
fault_lines text = map fault_text (faults_of text)

-- the fault of a text that is not loaded
abbrev pub refusal_of : Result Scenario LoadRefusal → Option LoadRefusal
refusal_of (Ok s) = None
refusal_of (Err fault) = Some fault
