-- The faults of a text by how far it can be read.
use Rattle.std.proofs.Common.{◌≡◌, ℕ, List, [], ◌∷◌, map, Option, Some, None, Result, Ok, Err, refl, ap, sym, ◌∙◌, subst}
use Rattle.toml.specs.Data.{Members}
use Rattle.gq_model.specs.machine.Scenario.{Scenario}
use Rattle.gq_model.specs.machine.Lists.{or_first}
use Rattle.gq_scenario.specs.Document.{described, document_fault, walk_fault}
use Rattle.gq_scenario.specs.Table_keys.{DocumentFault}
use Rattle.gq_scenario.specs.Top_table.{ReadFault, Bad_document, document_in, document_text, read_text, described_or, read_from, scenario_in}
use Rattle.gq_scenario.specs.Fault_words.{IsRead, SameFault, scenario_fault_text}
use Rattle.gq_scenario.specs.declared.scenario_fault.ScenarioFault.{ScenarioFault}
use Rattle.gq_scenario.specs.declared.scenario_fault.ScenarioError.TheVariants as errors
use Rattle.std.specs.Prelude.{MatchResult}
use Rattle.gq_load.specs.Load.{LoadRefusal, Unread, fault_text}
use Rattle.gq_reader.proofs.Faulty_document_result.{fault_read}
use Rattle.gq_faults.specs.Documents.{document_faults}
use Rattle.gq_faults.specs.Scenario_faults.{scenario_faults}
use Rattle.gq_faults.specs.First_stage_faults.{faults_in, faults_from, fault_lines}
use Rattle.gq_faults.specs.Found_lists.{or_else, first}
use Rattle.gq_faults.proofs.First_fault_found.{first_none}
use Rattle.gq_faults.proofs.First_of_counts.{first_of_document}

abbrev bad : DocumentFault → LoadRefusal
bad fault = Unread (Bad_document fault)

same_lines : (l : List DocumentFault) → map fault_text (map bad l) ≡ map document_text l
same_lines [] = refl
same_lines (d ∷ l) = ap (λ r. document_text d ∷ r) (same_lines l)

same_read : {a b : Scenario} → ◌≡◌ {A = Result Scenario ReadFault} (Ok a) (Ok b) → a ≡ b
same_read e = cc

-- a text that is read as a scenario
by_fault : (top : Members) (s : Scenario) (o : Option DocumentFault) → described_or top o ≡ Ok s → (o ≡ None) × (described top ≡ s)
by_fault top s None e = (refl, same_read e)
by_fault top s (Some d) e = absurd cc

module _ (text : List ℕ) (top : Members) (is : document_in text ≡ Ok top) where
  lines_are : fault_lines text ≡ map fault_text (faults_in top)
  lines_are = ap (λ r. map fault_text (faults_from r)) is

  read_is : scenario_in text ≡ described_or top (document_fault top)
  read_is = ap (read_from document_fault) is

  none_here : (s : Scenario) → scenario_in text ≡ Ok s → document_faults top ≡ []
  none_here s e = first_none (document_faults top) (first_of_document top ∙ (by_fault top s (document_fault top) (sym read_is ∙ e)).0)

  pub lines_of_described : (s : Scenario) → scenario_in text ≡ Ok s → fault_lines text ≡ map fault_text (scenario_faults s)
  lines_of_described s e =
      lines_are
      ∙ (ap (λ l. map fault_text (or_else (map bad l) (scenario_faults (described top)))) (none_here s e)
      ∙ ap (λ t. map fault_text (scenario_faults t)) (by_fault top s (document_fault top) (sym read_is ∙ e)).1)

  -- the fault of its tables is that of the text
  by_walk : (f : ScenarioFault) (o rest : Option DocumentFault) → SameFault (Some f) o → SameFault (Some f) (or_first o rest)
  by_walk f None rest h = absurd cc
  by_walk f (Some d) rest h = h

  pub refused_by_walk : (f : ScenarioFault) → SameFault (Some f) (walk_fault top) → IsRead (Err (errors.Fault f)) (scenario_in text)
  refused_by_walk f h =
      subst (λ (r : Result Scenario ReadFault). IsRead (Err (errors.Fault f)) r) (sym read_is)
      (fault_read top f (document_fault top) (by_walk f (walk_fault top) _ h))

  some_there : (l : List DocumentFault) (d : DocumentFault) → first l ≡ Some d
      → map fault_text (or_else (map bad l) (scenario_faults (described top))) ≡ map document_text l
  some_there [] d e = absurd cc
  some_there (x ∷ l) d e = same_lines (x ∷ l)

  by_read : (f : ScenarioFault) (o : Option DocumentFault) → document_fault top ≡ o → IsRead (Err (errors.Fault f)) (described_or top o)
      → map fault_text (faults_in top) ≡ map document_text (document_faults top)
  by_read f None e h = absurd h
  by_read f (Some d) e h = some_there (document_faults top) d (first_of_document top ∙ e)

  pub lines_of_document : (f : ScenarioFault) → IsRead (Err (errors.Fault f)) (scenario_in text) → fault_lines text ≡ map document_text (document_faults top)
  lines_of_document f h = lines_are ∙ by_read f (document_fault top) refl (subst (λ (r : Result Scenario ReadFault). IsRead (Err (errors.Fault f)) r) read_is h)

-- a text that is no document
by_answer : (f : ScenarioFault) (r : Result Members ReadFault) → MatchResult r (λ top. ⊥) (λ why. scenario_fault_text f ≡ read_text why)
    → map fault_text (faults_from r) ≡ scenario_fault_text f ∷ []
by_answer f (Ok top) h = absurd h
by_answer f (Err why) h = ap (λ l. l ∷ []) (sym h)

pub lines_of_stop : (text : List ℕ) (f : ScenarioFault) → MatchResult (document_in text) (λ top. ⊥) (λ why. scenario_fault_text f ≡ read_text why)
    → fault_lines text ≡ scenario_fault_text f ∷ []
lines_of_stop text f h = by_answer f (document_in text) h

-- a text that is read as a scenario has the faults of that
pub lines_of_scenario : (text : List ℕ) (s : Scenario) → scenario_in text ≡ Ok s → fault_lines text ≡ map fault_text (scenario_faults s)
lines_of_scenario text s e = by (document_in text) refl e
  where
    by : (r : Result Members ReadFault) → document_in text ≡ r → scenario_in text ≡ Ok s → fault_lines text ≡ map fault_text (scenario_faults s)
    by (Ok top) is e = lines_of_described text top is s e
    by (Err why) is e = absurd (never (sym (ap (read_from document_fault) is) ∙ e))
      where
        never : ◌≡◌ {A = Result Scenario ReadFault} (Err why) (Ok s) → ⊥
        never e = cc
