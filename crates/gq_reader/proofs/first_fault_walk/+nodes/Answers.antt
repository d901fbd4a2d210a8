use Rattle.std.proofs.Common.{◌≡◌, ◌<◌, Some, None, option_map, refl, sym, arith}
use Rattle.toml.specs.Data.{as_table}
use Rattle.toml.specs.View.{view, table_view}
use Rattle.gq_scenario.specs.Document.{keys_of}
use Rattle.gq_reader.specs.Key_rules.{entries_or_none}
use Rattle.gq_scenario.specs.Component_trees.{version_number}
use Rattle.gq_reader.proofs.First_document_fault.{nameless, node_first, node_below}
use Rattle.gq_reader.proofs.first_fault_walk.+nodes.Goals as goal

pub node_fault-returns-in_default : goal.node_fault-returns-in_default
node_fault-returns-in_default t c =
    let some : 0 < c.args.levels = omega arith in
    let none : as_table (view c.args.value.now) ≡ None = sym (rw c.in_default.is at c.as_table.ensures) in
    let services = keys_of (entries_or_none (option_map (λ t. table_view t.now) c.args.interfaces)) in
    rw (nameless c.args.levels (version_number c.args.version) services some (view c.args.value.now) none) refl

pub node_fault-returns-in-Some-own_fault : goal.node_fault-returns-in-Some-own_fault
node_fault-returns-in-Some-own_fault t c =
    let some : 0 < c.args.levels = omega arith in
    let is : as_table (view c.args.value.now) ≡ Some (table_view c.in-Some.table.now) = sym (rw c.in-Some.is at c.as_table.ensures) in
    let services = keys_of (entries_or_none (option_map (λ t. table_view t.now) c.args.interfaces)) in
    let reported = rw c.in-Some-own_fault.is at c.own_fault.ensures in
    node_first c.args.levels (version_number c.args.version) services some c.in-Some-own_fault.fault (view c.args.value.now)
    (table_view c.in-Some.table.now) is reported

pub node_fault-returns : goal.node_fault-returns
node_fault-returns t c =
    let some : 0 < c.args.levels = omega arith in
    let is : as_table (view c.args.value.now) ≡ Some (table_view c.in-Some.table.now) = sym (rw c.in-Some.is at c.as_table.ensures) in
    let services = keys_of (entries_or_none (option_map (λ t. table_view t.now) c.args.interfaces)) in
    let reported = rw c.in_default-own_fault.is at c.own_fault.ensures in
    let below = node_below c.args.levels (version_number c.args.version) services some (view c.args.value.now) (table_view c.in-Some.table.now) is reported in
    rw (below, ← c.list_at.ensures) c.nodes_fault.ensures
