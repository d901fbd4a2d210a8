use Rattle.std.proofs.Common.{map}
use Rattle.toml.specs.View.{table_view}
use Rattle.gq_scenario.specs.Top_table.{document_text}
use Rattle.gq_faults.specs.Documents.{document_faults}
use Rattle.gq_faults.proofs.Reported_texts.{path_reported}
use Rattle.gq_faults.proofs.Reported_fault_prefixes.{memory_ends}
use Rattle.gq_faults.proofs.faults.report_tables.Goals as goal

pub returns : goal.returns
returns g c =
    path_reported (map document_text (document_faults (table_view c.args.top.now))) _ _ _ _ c.in_ok-reporter.reporter.path.now c.args.file.path.now _
    c.in_ok-reporter.ensures c.report_document.ensures

pub returns-in_err-reporter : goal.returns-in_err-reporter
returns-in_err-reporter g c =
    memory_ends c.args.file.path.now (map document_text (document_faults (table_view c.args.top.now))) _ _ c.from_residual.result c.from_residual.ensures.1
