use Rattle.std.proofs.Common.{◌≡◌}
use Rattle.toml.specs.View.{members_view, table_view}
use Rattle.gq_scenario.specs.Document_tables.{are_named_tables}
use Rattle.gq_reader.proofs.rules.are_named_tables.Given as goal

abbrev pub invariant-loop-key : goal.invariant-loop-key
invariant-loop-key l = goal.iterator-loop-key.can_next l.key-iterator × goal.iterator-loop-key.is_finite l.key-iterator
    × (are_named_tables (members_view l.key-iterator) ≡ are_named_tables (table_view l.table))
