-- What is called was not done.
use Rattle.gq_command.specs.declared.command.TurnsCommand.TheVariants.{Run}
use Rattle.gq_cli.specs.Executed.{Of_both}
use Rattle.gq_cli.proofs.Command_refusal_reasons.{by_both, reported_ends, reported_leaves}
use Rattle.gq_cli.proofs.execute.run_texts.Goals as goal

pub returns-in-Err-clause-ended : goal.returns-in-Err-clause-ended
returns-in-Err-clause-ended g c =
    reported_ends g.W.Write.contents (Of_both Run c.args.scenario.now c.args.turns.now) _
    (by_both Run c.args.scenario.now c.args.turns.now) _ _ c.in-Err.fault c.reported.result c.reported.ensures c.in-Err.ensures.writes

pub returns-in-Err-clause-leaves : goal.returns-in-Err-clause-leaves
returns-in-Err-clause-leaves g c =
    reported_leaves g.W.Write.contents (Of_both Run c.args.scenario.now c.args.turns.now) _
    (by_both Run c.args.scenario.now c.args.turns.now) _ _ c.in-Err.fault c.reported.result c.reported.ensures c.in-Err.ensures.writes
