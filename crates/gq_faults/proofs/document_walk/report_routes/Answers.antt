use Rattle.std.proofs.Common.{map}
use Rattle.toml.specs.View.{table_view}
use Rattle.gq_scenario.specs.Top_table.{document_text}
use Rattle.gq_scenario.specs.Fault_words.{key_text}
use Rattle.gq_faults.specs.Documents.{routes_faults}
use Rattle.gq_faults.proofs.Reported_fault_prefixes.{memory_ends}
use Rattle.gq_faults.proofs.document_walk.report_routes.Goals as goal

pub returns-in_err-way : goal.returns-in_err-way
returns-in_err-way g c =
    memory_ends c.args.reporter.now.path.now (map document_text (routes_faults (key_text c.args.key) (table_view c.args.table.now))) _ _
    c.from_residual.result c.from_residual.ensures.1
