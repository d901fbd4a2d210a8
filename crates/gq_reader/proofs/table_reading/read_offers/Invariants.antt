use Rattle.std.proofs.Common.{◌≡◌, ◌++◌, true}
use Rattle.toml.specs.View.{members_view, table_view}
use Rattle.gq_scenario.specs.Document.{offers_of}
use Rattle.gq_scenario.specs.Document_tables.{are_named_names}
use Rattle.gq_reader.proofs.table_reading.read_offers.Given as goal

-- the offers so far and those that are left are all
abbrev pub invariant-loop-key : goal.invariant-loop-key
invariant-loop-key l =
    goal.iterator-loop-key.can_next l.key-iterator × goal.iterator-loop-key.is_finite l.key-iterator
    × (l.read.items ++ offers_of (members_view l.key-iterator) ≡ offers_of (table_view l.offers))
    × (are_named_names (members_view l.key-iterator) ≡ true)
