use Rattle.std.proofs.Common.{[], ◌∷◌}
use Rattle.gq_faults.specs.Turn_faults.{turn_fault_line}
use Rattle.gq_model.specs.declared.fault.TurnFault.TheVariants.{TooMany}
use Rattle.gq_faults.proofs.Reported_fault_prefixes.{memory_ends}
use Rattle.gq_faults.proofs.turn_faults.report_too_long.Goals as goal

pub returns-in_err-more_than : goal.returns-in_err-more_than
returns-in_err-more_than g c =
    memory_ends c.args.file.path.now (turn_fault_line (TooMany, 0) ∷ []) _ _ c.from_residual.result c.from_residual.ensures.1
