-- A scenario that is refused before anything is made.
use Rattle.std.proofs.lemmas.Result.{err_from_is_err_and}
use Rattle.gq_fit.proofs.Made_again.{load_reason}
use Rattle.gq_fit.proofs.made.fitted_scenario.Goals as goal

pub returns-in_err-leasts-clause-refused : goal.returns-in_err-leasts-clause-refused
returns-in_err-leasts-clause-refused c =
    let p = err_from_is_err_and c.from_residual.result c.from_residual.ensures.1 in
    rw (p.1, p.2) (load_reason c.args.text.now c.args.scenario.now c.requires c.in_err-leasts.field-0.0 c.in_err-leasts.ensures.refused)
