use Rattle.std.proofs.Common.{[], ◌∷◌, map}
use Rattle.gq_scenario.specs.Table_keys.{NameTwice}
use Rattle.gq_scenario.specs.Top_table.{document_text}
use Rattle.gq_faults.proofs.Reported_fault_prefixes.{memory_ends}
use Rattle.gq_faults.proofs.repeated_names.report_name.Goals as goal

pub returns-in_err-way : goal.returns-in_err-way
returns-in_err-way g c =
    memory_ends c.args.reporter.now.path.now (map document_text (NameTwice c.args.text.now ∷ [])) _ _ c.from_residual.result c.from_residual.ensures.1

pub returns-in_err-detail : goal.returns-in_err-detail
returns-in_err-detail g c =
    memory_ends c.args.reporter.now.path.now (map document_text (NameTwice c.args.text.now ∷ [])) _ _
    c.from_residual-in_err-detail.result c.from_residual-in_err-detail.ensures.1
