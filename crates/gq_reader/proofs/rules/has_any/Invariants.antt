use Rattle.std.proofs.Common.{◌≡◌, map, drop}
use Rattle.toml.specs.View.{table_view}
use Rattle.gq_model.specs.machine.Lists.{any_of}
use Rattle.gq_scenario.specs.Table_keys.{has}
use Rattle.gq_scenario.specs.Fault_words.{key_text}
use Rattle.gq_reader.proofs.rules.has_any.Given as goal

abbrev pub invariant-loop-key : goal.invariant-loop-key
invariant-loop-key l = any_of (has (table_view l.table)) (map key_text (drop l.key-index l.keys)) ≡ any_of (has (table_view l.table)) (map key_text l.keys)
