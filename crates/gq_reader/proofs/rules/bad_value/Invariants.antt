use Rattle.std.proofs.Common.{◌≡◌, map, drop}
use Rattle.toml.specs.View.{table_view}
use Rattle.gq_scenario.specs.Table_keys.{bad_value}
use Rattle.gq_reader.specs.Key_rules.{rule_of}
use Rattle.gq_reader.proofs.rules.bad_value.Given as goal

abbrev pub invariant-loop-rule : goal.invariant-loop-rule
invariant-loop-rule l = bad_value (map rule_of (drop l.rule-index l.rules)) (table_view l.table) ≡ bad_value (map rule_of l.rules) (table_view l.table)
