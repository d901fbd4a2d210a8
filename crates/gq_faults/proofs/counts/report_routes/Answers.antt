use Rattle.std.proofs.Common.{map}
use Rattle.gq_scenario.specs.Top_table.{document_text}
use Rattle.gq_faults.specs.Documents.{too_many}
use Rattle.gq_faults.proofs.Reported_fault_prefixes.{memory_ends}
use Rattle.gq_faults.proofs.counts.report_routes.Goals as goal

pub returns-in_err-list : goal.returns-in_err-list
returns-in_err-list g c =
    memory_ends c.args.reporter.now.path.now (map document_text (too_many c.args.count)) _ _ c.from_residual.result c.from_residual.ensures.1

pub returns-in_err-way : goal.returns-in_err-way
returns-in_err-way g c =
    memory_ends c.args.reporter.now.path.now (map document_text (too_many c.args.count)) _ _
    c.from_residual-in_err-way.result c.from_residual-in_err-way.ensures.1
