use Rattle.std.proofs.Common.{◌≡◌, ◌++◌, true, None}
use Rattle.toml.specs.View.{members_view, table_view}
use Rattle.gq_scenario.specs.Document.{interfaces_of, interfaces_fault}
use Rattle.gq_scenario.specs.Document_tables.{are_named_tables}
use Rattle.gq_scenario.specs.Component_trees.{version_number}
use Rattle.gq_reader.proofs.interface_reading.read_entries.Given as goal

abbrev pub invariant-loop-key : goal.invariant-loop-key
invariant-loop-key l =
    goal.iterator-loop-key.can_next l.key-iterator × goal.iterator-loop-key.is_finite l.key-iterator
    × (l.entries.items ++ interfaces_of (version_number l.version) (members_view l.key-iterator)
    ≡ interfaces_of (version_number l.version) (table_view l.tables))
    × (are_named_tables (members_view l.key-iterator) ≡ true) × (interfaces_fault (version_number l.version) (members_view l.key-iterator) ≡ None)
