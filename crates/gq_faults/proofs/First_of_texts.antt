-- The first of all faults is the one that `check` reports.
use Rattle.std.proofs.Common.{◌≡◌, ℕ, List, [], map, Option, Some, None, option_map, Result, Ok, Err}
use Rattle.std.proofs.Common.{refl, ap, ◌∙◌}
use Rattle.toml.specs.Data.{Members}
use Rattle.gq_model.specs.machine.Lists.{or_first}
use Rattle.gq_model.specs.machine.Scenario.{Scenario}
use Rattle.gq_scenario.specs.Document.{described, document_fault}
use Rattle.gq_scenario.specs.Table_keys.{DocumentFault}
use Rattle.gq_scenario.specs.Top_table.{ReadFault, Bad_document, document_in, described_or, read_from}
use Rattle.gq_load.specs.Load.{LoadRefusal, Unread, scenario_fault, loaded_or, loaded_from, loaded}
use Rattle.gq_faults.specs.Found_lists.{first}
use Rattle.gq_faults.proofs.First_fault_found.{first_else, first_map, first_none}
use Rattle.gq_faults.specs.Scenario_faults.{scenario_faults}
use Rattle.gq_faults.proofs.First_of_scenarios.{first_of_scenario}
use Rattle.gq_faults.specs.Documents.{document_faults}
use Rattle.gq_faults.specs.First_stage_faults.{faults_from, faults_of, refusal_of}
use Rattle.gq_faults.proofs.First_of_counts.{first_of_document}

abbrev bad : DocumentFault → LoadRefusal
bad fault = Unread (Bad_document fault)

by_scenario : (s : Scenario) (o : Option LoadRefusal) → o ≡ refusal_of (loaded_or s o)
by_scenario s None = refl
by_scenario s (Some fault) = refl

by_document : (top : Members) (o : Option DocumentFault)
    → or_first (option_map bad o) (scenario_fault (described top)) ≡ refusal_of (loaded_from (described_or top o))
by_document top None = by_scenario (described top) (scenario_fault (described top))
by_document top (Some fault) = refl

by_text : (r : Result Members ReadFault) → first (faults_from r) ≡ refusal_of (loaded_from (read_from document_fault r))
by_text (Err why) = refl
by_text (Ok top) =
    first_else (map bad (document_faults top)) (scenario_faults (described top)) (option_map bad (document_fault top)) (scenario_fault (described top))
    (first_map bad (document_faults top) ∙ ap (option_map bad) (first_of_document top)) (first_of_scenario (described top))
    ∙ by_document top (document_fault top)

pub first_of_all : (text : List ℕ) → first (faults_of text) ≡ refusal_of (loaded text)
first_of_all text = by_text (document_in text)

-- none is reported of a text that is accepted
pub none_of_accepted : (text : List ℕ) (s : Scenario) → loaded text ≡ Ok s → faults_of text ≡ []
none_of_accepted text s e = first_none (faults_of text) (first_of_all text ∙ ap refusal_of e)
