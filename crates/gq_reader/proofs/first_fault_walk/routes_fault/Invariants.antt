use Rattle.std.proofs.Common.{◌≡◌, drop}
use Rattle.toml.specs.View.{items_view}
use Rattle.gq_scenario.specs.Table_keys.{listed, table_fault}
use Rattle.gq_scenario.specs.Document_tables.{route_keys}
use Rattle.gq_scenario.specs.Document.{first_of}
use Rattle.gq_reader.proofs.first_fault_walk.routes_fault.Given as goal

abbrev pub invariant-loop-value : goal.invariant-loop-value
invariant-loop-value l = first_of (table_fault route_keys) (listed (items_view (drop l.value-index l.value-items)))
    ≡ first_of (table_fault route_keys) (listed (items_view l.value-items))
