use Rattle.std.proofs.Common.{rules, [], ◌∷◌}
use Rattle.gq_scenario.specs.Fault_words.{scenario_fault_text}
use Rattle.gq_faults.proofs.Reported_fault_prefixes.{memory_ends}
use Rattle.gq_faults.proofs.table_faults.report_fault.Goals as goal

pub returns : goal.returns
returns g c = search rules

pub returns-in_err-line : goal.returns-in_err-line
returns-in_err-line g c =
    memory_ends c.args.reporter.now.path.now (scenario_fault_text c.args.fault ∷ []) _ _ c.from_residual.result c.from_residual.ensures.1
