use Rattle.std.proofs.Common.{◌≡◌, ◌++◌, None, drop}
use Rattle.toml.specs.View.{items_view}
use Rattle.gq_scenario.specs.Table_keys.{listed, table_fault}
use Rattle.gq_scenario.specs.Document_tables.{route_keys}
use Rattle.gq_scenario.specs.Document.{first_of, routes_of}
use Rattle.gq_reader.proofs.table_reading.read_routes.Given as goal

abbrev pub invariant-loop-value : goal.invariant-loop-value
invariant-loop-value l =
    record {
      read : l.routes.items ++ routes_of (listed (items_view (drop l.value-index l.values))) ≡ routes_of (listed (items_view l.values));
      rest : first_of (table_fault route_keys) (listed (items_view (drop l.value-index l.values))) ≡ None;
    }
