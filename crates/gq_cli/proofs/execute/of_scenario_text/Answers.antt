-- What is called was not done.
use Rattle.gq_cli.specs.Executed.{Of_scenario}
use Rattle.gq_cli.proofs.Command_refusal_reasons.{by_scenario, reported_ends, reported_leaves}
use Rattle.gq_cli.proofs.execute.of_scenario_text.Goals as goal

pub returns-in-Err-clause-ended : goal.returns-in-Err-clause-ended
returns-in-Err-clause-ended g c =
    reported_ends g.W.Write.contents (Of_scenario c.args.command c.args.scenario.now) _
    (by_scenario c.args.command c.args.scenario.now) _ _ c.in-Err.fault c.reported.result c.reported.ensures c.in-Err.ensures.writes

pub returns-in-Err-clause-leaves : goal.returns-in-Err-clause-leaves
returns-in-Err-clause-leaves g c =
    reported_leaves g.W.Write.contents (Of_scenario c.args.command c.args.scenario.now) _
    (by_scenario c.args.command c.args.scenario.now) _ _ c.in-Err.fault c.reported.result c.reported.ensures c.in-Err.ensures.writes
