-- What is called was not done.
use Rattle.gq_cli.proofs.Fit_command_result.{fit_ends, fit_leaves}
use Rattle.gq_cli.proofs.fit_command.of_fit_text.Goals as goal

pub returns-in-Err-clause-ended : goal.returns-in-Err-clause-ended
returns-in-Err-clause-ended g c =
    fit_ends g.W.Write.contents c.args.fitting c.args.scenario.now _ _ c.in-Err.fault c.reported.result c.reported.ensures c.in-Err.ensures

pub returns-in-Err-clause-leaves : goal.returns-in-Err-clause-leaves
returns-in-Err-clause-leaves g c =
    fit_leaves g.W.Write.contents c.args.fitting c.args.scenario.now _ _ c.in-Err.fault c.reported.result c.reported.ensures c.in-Err.ensures
