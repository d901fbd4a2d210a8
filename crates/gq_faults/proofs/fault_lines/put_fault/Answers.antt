use Rattle.std.proofs.Common.{rules, [], ◌∷◌}
use Rattle.gq_faults.proofs.Reported_fault_prefixes.{memory_ends}
use Rattle.gq_faults.proofs.fault_lines.put_fault.Goals as goal

pub returns-in_err-text : goal.returns-in_err-text
returns-in_err-text g c =
    memory_ends c.args.path.now (c.args.fault.now ∷ []) _ _ c.from_residual.result c.from_residual.ensures.1

pub returns : goal.returns
returns g c = search rules
