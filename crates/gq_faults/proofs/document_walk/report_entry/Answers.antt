use Rattle.std.proofs.Common.{◌≡◌, Some, None, sym, List}
use Rattle.toml.specs.Data.{Members, as_table}
use Rattle.toml.specs.View.{view, table_view}
use Rattle.gq_scenario.specs.Table_keys.{DocumentFault}
use Rattle.gq_scenario.specs.Document_tables.{interface_keys}
use Rattle.gq_scenario.specs.Component_trees.{version_number}
use Rattle.gq_faults.specs.Documents.{table_faults}
use Rattle.gq_faults.proofs.Reported_fault_prefixes.{reports_none}
use Rattle.gq_faults.proofs.Document_value_views.{in_table_at, in_table_none}
use Rattle.gq_faults.proofs.document_walk.report_entry.Goals as goal

pub returns-in_default : goal.returns-in_default
returns-in_default g c =
    let f : Members → List DocumentFault = λ entries. table_faults (interface_keys (version_number c.args.version) entries) entries in
    let none : as_table (view c.args.value.now) ≡ None = sym (rw c.in_default.is at c.as_table.ensures) in
    rw (in_table_none f (view c.args.value.now) none) (reports_none c.args.reporter.now.path.now _ _ tt)

pub returns : goal.returns
returns g c =
    let f : Members → List DocumentFault = λ entries. table_faults (interface_keys (version_number c.args.version) entries) entries in
    let is : as_table (view c.args.value.now) ≡ Some (table_view c.in-Some.table.now) = sym (rw c.in-Some.is at c.as_table.ensures) in
    rw (in_table_at f (view c.args.value.now) (table_view c.in-Some.table.now) is) c.report_interface.ensures
