use Rattle.std.proofs.Common.{[], ◌∷◌}
use Rattle.gq_scenario.specs.Fault_words.{scenario_fault_text}
use Rattle.gq_faults.proofs.Reported_fault_prefixes.{memory_ends}
use Rattle.gq_faults.proofs.table_faults.report_key.Goals as goal

pub returns-in_err-way : goal.returns-in_err-way
returns-in_err-way g c =
    memory_ends c.args.reporter.now.path.now (scenario_fault_text c.args.fault ∷ []) _ _ c.from_residual.result c.from_residual.ensures.1
