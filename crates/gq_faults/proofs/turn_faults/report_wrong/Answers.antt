use Rattle.std.proofs.Common.{[], ◌∷◌}
use Rattle.gq_faults.specs.Turn_faults.{turn_fault_line}
use Rattle.gq_faults.proofs.Reported_fault_prefixes.{memory_ends}
use Rattle.gq_faults.proofs.turn_faults.report_wrong.Goals as goal

pub returns-in_err-details : goal.returns-in_err-details
returns-in_err-details g c =
    memory_ends c.args.path.now (turn_fault_line (c.args.wrong.now.fault, c.args.wrong.now.line) ∷ []) _ _ c.from_residual.result c.from_residual.ensures.1
