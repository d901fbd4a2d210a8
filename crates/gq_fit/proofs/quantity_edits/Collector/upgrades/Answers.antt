use Rattle.std.proofs.Common.{[]}
use Rattle.std.proofs.lemmas.Result.{err_from_is_err_and}
use Rattle.gq_fit.proofs.Due_quantities.{error_first}
use Rattle.gq_fit.proofs.quantity_edits.Collector.upgrades.Goals as goal

pub returns-in_err-upgrade_bytes-clause-due : goal.returns-in_err-upgrade_bytes-clause-due
returns-in_err-upgrade_bytes-clause-due c =
    let p = err_from_is_err_and c.from_residual-in_err-upgrade_bytes.result c.from_residual-in_err-upgrade_bytes.ensures.1 in
    rw (p.1, p.2) (error_first c.in_err-upgrade_bytes.field-0.0 [] _ c.in_err-upgrade_bytes.ensures.due)
