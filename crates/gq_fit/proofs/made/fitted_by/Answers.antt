-- Where what was made is another scenario, no quantity is to blame.
use Rattle.std.proofs.Common.{[]}
use Rattle.std.proofs.lemmas.Result.{err_from_is_err_and}
use Rattle.gq_fit.specs.Reasons.{quantities_by}
use Rattle.gq_fit.proofs.Due_quantities.{error_first}
use Rattle.gq_fit.proofs.made.fitted_by.Goals as goal

pub returns-in_err-check_made-clause-due : goal.returns-in_err-check_made-clause-due
returns-in_err-check_made-clause-due c =
    let p = err_from_is_err_and c.from_residual-in_err-check_made.result c.from_residual-in_err-check_made.ensures.1 in
    let least = c.args.leasts.now in
    let all = quantities_by c.args.scenario.now least.interfaces.items least.nodes.items in
    rw (p.1, p.2) (error_first c.in_err-check_made.field-0.0 [] all c.in_err-check_made.ensures.due)
