use Rattle.std.proofs.Common.{◌≡◌, List, Some, sym, ◌∙◌, subst}
use Rattle.toml.specs.Data.{Data, as_table}
use Rattle.toml.specs.View.{view, table_view}
use Rattle.gq_scenario.specs.Table_keys.{table_fault}
use Rattle.gq_scenario.specs.Document_tables.{route_keys}
use Rattle.gq_scenario.specs.Document.{first_of}
use Rattle.gq_scenario.specs.Fault_words.{SameFault}
use Rattle.gq_reader.proofs.Reported_table_faults.{leaf_first, leaf_next}
use Rattle.gq_reader.proofs.first_fault_walk.routes_fault.Goals as goal

pub returns-in-Some-route_fault : goal.returns-in-Some-route_fault
returns-in-Some-route_fault c =
    let is : as_table (view c.value-item.result) ≡ Some (table_view c.in-Some.route.now) = sym (rw c.in-Some.is at c.as_table.ensures) in
    let reported = rw c.in-Some-route_fault.is at c.route_fault.ensures in
    let P : List Data → Type 0 = λ ds. SameFault (Some c.in-Some-route_fault.fault) (first_of (table_fault route_keys) ds) in
    subst P c.list_at-value-items.ensures (rw (← c.loop-value.invariant)
    (leaf_first (table_fault route_keys) c.in-Some-route_fault.fault c.list_at-value-items.result.now c.loop-value.value-index c.value-item.result
    (table_view c.in-Some.route.now) c.loop-value-test.true c.value-item.is is reported))

pub loop-value-preserved : goal.loop-value-preserved
loop-value-preserved c =
    let is : as_table (view c.value-item.result) ≡ Some (table_view c.in-Some.route.now) = sym (rw c.in-Some.is at c.as_table.ensures) in
    let reported = rw c.in_default-route_fault.is at c.route_fault.ensures in
    leaf_next (table_fault route_keys) c.list_at-value-items.result.now c.loop-value.value-index c.value-item.result
    (table_view c.in-Some.route.now) c.loop-value-test.true c.value-item.is is reported
    ∙ c.loop-value.invariant
