use Rattle.std.proofs.Common.{rules, [], ◌∷◌}
use Rattle.gq_faults.proofs.Reported_fault_prefixes.{memory_ends}
use Rattle.gq_faults.proofs.fault_lines.Reporter.report.Goals as goal

pub returns : goal.returns
returns g c = search rules

pub returns-in_err-position : goal.returns-in_err-position
returns-in_err-position g c =
    memory_ends c.args.self.now.path.now (c.args.fault.now ∷ []) _ _ c.from_residual.result c.from_residual.ensures.1

pub returns-in_err-push_detail : goal.returns-in_err-push_detail
returns-in_err-push_detail g c =
    memory_ends c.args.self.now.path.now (c.args.fault.now ∷ []) _ _ c.from_residual-in_err-push_detail.result c.from_residual-in_err-push_detail.ensures.1

pub returns-in_err-push_elsewhere : goal.returns-in_err-push_elsewhere
returns-in_err-push_elsewhere g c =
    memory_ends c.args.self.now.path.now (c.args.fault.now ∷ []) _ _
    c.from_residual-in_err-push_elsewhere.result c.from_residual-in_err-push_elsewhere.ensures.1
