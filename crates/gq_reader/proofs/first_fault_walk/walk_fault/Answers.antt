use Rattle.std.proofs.Common.{Some, refl}
use Rattle.toml.specs.View.{table_view}
use Rattle.gq_scenario.specs.Component_trees.{version_number}
use Rattle.gq_reader.proofs.Reported_table_faults.{reports_first, reports_second}
use Rattle.gq_reader.proofs.First_document_fault.{walk_is}
use Rattle.gq_reader.proofs.first_fault_walk.walk_fault.Goals as goal

pub returns-in-Some : goal.returns-in-Some
returns-in-Some c =
    let f = c.in-Some.fault in
    let is = walk_is (version_number c.version_of-version.result) _ (table_view c.args.top.now) c.version_of-version.ensures refl in
    rw is (reports_first f _ _ (rw c.in-Some.is at c.top_fault.ensures))

pub returns-in-Some-declared_fault : goal.returns-in-Some-declared_fault
returns-in-Some-declared_fault c =
    let f = c.in-Some-declared_fault.fault in
    let is = walk_is (version_number c.version_of-version.result) _ (table_view c.args.top.now) c.version_of-version.ensures c.table_at-interfaces.ensures in
    let top = rw c.in_default.is at c.top_fault.ensures in
    rw is (reports_second (Some f) _ _ top (reports_first f _ _ (rw c.in-Some-declared_fault.is at c.declared_fault.ensures)))

pub returns-in-Some-routes_fault : goal.returns-in-Some-routes_fault
returns-in-Some-routes_fault c =
    let f = c.in-Some-routes_fault.fault in
    let is = walk_is (version_number c.version_of-version.result) _ (table_view c.args.top.now) c.version_of-version.ensures c.table_at-interfaces.ensures in
    let top = rw c.in_default.is at c.top_fault.ensures in
    let interfaces = rw c.in_default-declared_fault.is at c.declared_fault.ensures in
    rw is (reports_second (Some f) _ _ top (reports_second (Some f) _ _ interfaces
    (reports_first f _ _ (rw c.in-Some-routes_fault.is at c.routes_fault.ensures))))

pub returns : goal.returns
returns c =
    let found = c.nodes_fault.result in
    let is = walk_is (version_number c.version_of-version.result) _ (table_view c.args.top.now) c.version_of-version.ensures c.table_at-interfaces.ensures in
    let top = rw c.in_default.is at c.top_fault.ensures in
    let interfaces = rw c.in_default-declared_fault.is at c.declared_fault.ensures in
    let routes = rw c.in_default-routes_fault.is at c.routes_fault.ensures in
    let nodes = rw c.list_at.ensures at c.nodes_fault.ensures in
    rw is (reports_second found _ _ top (reports_second found _ _ interfaces (reports_second found _ _ routes nodes)))
