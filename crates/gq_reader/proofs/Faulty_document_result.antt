-- What is answered of a document that has a fault, and of its names.
use Rattle.std.proofs.Common.{◌≡◌, Bool, true, false, cond, List, ℕ, Option, Some, None, Err}
use Rattle.toml.specs.Data.{Members}
use Rattle.gq_scenario.specs.Table_keys.{DocumentFault}
use Rattle.gq_scenario.specs.Top_table.{described_or, document_text}
use Rattle.gq_scenario.specs.Fault_words.{scenario_fault_text, SameFault, IsRead}
use Rattle.gq_scenario.specs.declared.scenario_fault.ScenarioFault.{ScenarioFault}
use Rattle.gq_scenario.specs.declared.scenario_fault.ScenarioError.TheVariants as errors

abbrev some_of : {A : Type 0} → A → Option A
some_of x = Some x

some_is : {A : Type 0} (x y : A) → some_of x ≡ some_of y → x ≡ y
some_is x y e = cc

pub name_kept : (o : Option (List ℕ)) (b : Bool) (name kept : List ℕ) → o ≡ cond b (Some name) None → o ≡ Some kept → kept ≡ name
name_kept o true name kept e f = cc
name_kept o false name kept e f = absurd cc

pub fault_read : (top : Members) (f : ScenarioFault) (o : Option DocumentFault) → SameFault (Some f) o → IsRead (Err (errors.Fault f)) (described_or top o)
fault_read top f None h = absurd cc
fault_read top f (Some d) h = some_is (scenario_fault_text f) (document_text d) h
