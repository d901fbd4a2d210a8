use Rattle.std.proofs.Common.{◌≡◌, Some, sym, ◌∙◌}
use Rattle.toml.specs.Data.{as_table}
use Rattle.toml.specs.View.{view, table_view}
use Rattle.gq_scenario.specs.Table_keys.{table_fault}
use Rattle.gq_scenario.specs.Document_tables.{route_keys}
use Rattle.gq_reader.proofs.Reported_table_faults.{leaf_none}
use Rattle.gq_reader.proofs.Nodes_read.{route_read}
use Rattle.gq_reader.proofs.table_reading.read_routes.Goals as goal

pub read_route-requires : goal.read_route-requires
read_route-requires c =
    let is : as_table (view c.value-item.result) ≡ Some (table_view c.in-Some.table.now) = sym (rw c.in-Some.is at c.as_table.ensures) in
    (leaf_none (table_fault route_keys) c.args.values.now c.loop-value.value-index c.value-item.result
    (table_view c.in-Some.table.now) c.loop-value-test.true c.value-item.is is c.loop-value.invariant.rest).0

pub loop-value-preserved : goal.loop-value-preserved
loop-value-preserved c =
    let is : as_table (view c.value-item.result) ≡ Some (table_view c.in-Some.table.now) = sym (rw c.in-Some.is at c.as_table.ensures) in
    let read = route_read c.loop-value.routes.items c.args.values.now c.loop-value.value-index c.value-item.result
    (table_view c.in-Some.table.now) c.loop-value-test.true c.value-item.is is in
    record {
      read = rw (c.in_ok-push.ensures.items, c.read_route.ensures) (read ∙ c.loop-value.invariant.read);
      rest = (leaf_none (table_fault route_keys) c.args.values.now c.loop-value.value-index c.value-item.result
          (table_view c.in-Some.table.now) c.loop-value-test.true c.value-item.is is c.loop-value.invariant.rest).1;
    }
