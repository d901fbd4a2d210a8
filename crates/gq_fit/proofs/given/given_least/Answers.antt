-- A text that fits as it is.
use Rattle.gq_fit.proofs.Made_again.{is_fitted_whole}
use Rattle.gq_fit.proofs.given.given_least.Goals as goal

pub returns-then-branch-clause-fitted : goal.returns-then-branch-clause-fitted
returns-then-branch-clause-fitted c =
    is_fitted_whole c.args.text.now c.in_ok-from_slice.field-0.items c.args.scenario.now c.requires.read c.requires.faultless c.in_ok-from_slice.ensures.items
    (c.in_ok-is_own_fit_whole.ensures.fits c.if-branch.true)
