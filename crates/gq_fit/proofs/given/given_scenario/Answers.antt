-- A scenario that is refused before anything is made.
use Rattle.std.proofs.lemmas.Result.{err_from_is_err_and}
use Rattle.gq_fit.proofs.Made_again.{load_reason_whole}
use Rattle.gq_fit.proofs.given.given_scenario.Goals as goal

pub returns-in_err-donations-clause-refused : goal.returns-in_err-donations-clause-refused
returns-in_err-donations-clause-refused c =
    let p = err_from_is_err_and c.from_residual.result c.from_residual.ensures.1 in
    rw (p.1, p.2) (load_reason_whole c.args.text.now c.args.scenario.now c.requires c.in_err-donations.field-0.0 c.in_err-donations.ensures.refused)
