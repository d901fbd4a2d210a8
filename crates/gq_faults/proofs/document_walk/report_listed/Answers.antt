use Rattle.std.proofs.Common.{◌≡◌, Some, None, map, sym}
use Rattle.toml.specs.Data.{as_table}
use Rattle.toml.specs.View.{view, table_view}
use Rattle.gq_scenario.specs.Document_tables.{route_keys}
use Rattle.gq_faults.specs.Documents.{in_table, table_faults}
use Rattle.gq_faults.proofs.Reported_fault_prefixes.{memory_ends, reports_none}
use Rattle.gq_faults.proofs.Document_value_views.{in_table_at, in_table_none}
use Rattle.gq_scenario.specs.Top_table.{document_text}
use Rattle.gq_faults.proofs.document_walk.report_listed.Goals as goal

pub returns-in_default : goal.returns-in_default
returns-in_default g c =
    let none : as_table (view c.args.value.now) ≡ None = sym (rw c.in_default.is at c.as_table.ensures) in
    rw (in_table_none (table_faults route_keys) (view c.args.value.now) none) (reports_none c.args.reporter.now.path.now _ _ tt)

pub returns : goal.returns
returns g c =
    let is : as_table (view c.args.value.now) ≡ Some (table_view c.in-Some.table.now) = sym (rw c.in-Some.is at c.as_table.ensures) in
    rw (in_table_at (table_faults route_keys) (view c.args.value.now) (table_view c.in-Some.table.now) is) c.report_route.ensures

pub returns-in_err-way : goal.returns-in_err-way
returns-in_err-way g c =
    memory_ends c.args.reporter.now.path.now (map document_text (in_table (table_faults route_keys) (view c.args.value.now))) _ _
    c.from_residual.result c.from_residual.ensures.1
