-- The keys that a document may have are printed as they are.
use Rattle.std.proofs.Common.{◌≡◌, rules}
use Rattle.gq_scenario.specs.Table_keys.{BadValue}
use Rattle.gq_scenario.specs.Top_table.{document_text}
use Rattle.gq_scenario.specs.Fault_words.{key_text, scenario_fault_text}
use Rattle.gq_scenario.specs.declared.scenario_fault.ScenarioFault.TheVariants as faults
use Rattle.gq_scenario.specs.declared.key.Key.{Key}

pub bad_value_text : (key : Key) → scenario_fault_text (faults.BadValue key) ≡ document_text (BadValue (key_text key))
bad_value_text key = search rules
