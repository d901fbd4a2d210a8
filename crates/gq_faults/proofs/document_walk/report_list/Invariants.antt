use Rattle.std.proofs.Common.{ℕ, List, Option, Result, map, drop}
use Rattle.toml.specs.View.{items_view}
use Rattle.gq_scenario.specs.Table_keys.{listed}
use Rattle.gq_scenario.specs.Top_table.{document_text}
use Rattle.gq_scenario.specs.Document_tables.{route_keys}
use Rattle.gq_faults.specs.Documents.{in_tables, table_faults}
use Rattle.gq_faults.specs.Reported_faults.{Reporting}
use Rattle.gq_faults.specs.declared.report_error.ReportError.{ReportError}
use Rattle.gq_faults.proofs.document_walk.report_list.Given as goal

-- who reports those that are left reports all
abbrev pub invariant-loop-index : goal.invariant-loop-index
invariant-loop-index g l = ((after : Option (List ℕ)) (n : ℕ) (r : Result (Unit {0}) ReportError)
    → Reporting l.reporter.path.now (map document_text (in_tables (table_faults route_keys) (listed (items_view (drop l.index l.values)))))
    (g.W.Write.contents l.out.writer) after l.out.failures n r
    → Reporting l.reporter.path.now (map document_text (in_tables (table_faults route_keys) (listed (items_view l.values))))
    (g.W.Write.contents l.fn.out.writer) after l.fn.out.failures n r)
