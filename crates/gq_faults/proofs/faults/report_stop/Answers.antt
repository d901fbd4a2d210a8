use Rattle.std.proofs.Common.{[], ◌∷◌}
use Rattle.gq_scenario.specs.Fault_words.{scenario_fault_text}
use Rattle.gq_faults.proofs.Reported_fault_prefixes.{memory_ends}
use Rattle.gq_faults.proofs.faults.report_stop.Goals as goal

pub returns-in_err-position : goal.returns-in_err-position
returns-in_err-position g c =
    memory_ends c.args.file.path.now (scenario_fault_text c.args.fault.now ∷ []) _ _ c.from_residual.result c.from_residual.ensures.1

pub returns-in_err-line : goal.returns-in_err-line
returns-in_err-line g c =
    memory_ends c.args.file.path.now (scenario_fault_text c.args.fault.now ∷ []) _ _ c.from_residual-in_err-line.result c.from_residual-in_err-line.ensures.1
