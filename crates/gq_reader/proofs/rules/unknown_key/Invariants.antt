use Rattle.std.proofs.Common.{◌≡◌, map}
use Rattle.toml.specs.View.{members_view, table_view}
use Rattle.gq_scenario.specs.Table_keys.{unknown_key}
use Rattle.gq_reader.specs.Key_rules.{rule_of}
use Rattle.gq_reader.proofs.rules.unknown_key.Given as goal

abbrev pub invariant-loop-key : goal.invariant-loop-key
invariant-loop-key l = goal.iterator-loop-key.can_next l.key-iterator × goal.iterator-loop-key.is_finite l.key-iterator
    × (unknown_key (map rule_of l.rules) (members_view l.key-iterator) ≡ unknown_key (map rule_of l.rules) (table_view l.table))
