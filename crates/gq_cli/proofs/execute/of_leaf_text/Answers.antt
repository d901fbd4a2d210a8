-- What is called was not done.
use Rattle.gq_cli.specs.Executed.{Of_leaf}
use Rattle.gq_cli.proofs.Command_refusal_reasons.{by_leaf, reported_ends, reported_leaves}
use Rattle.gq_cli.proofs.execute.of_leaf_text.Goals as goal

pub returns-in-Err-clause-ended : goal.returns-in-Err-clause-ended
returns-in-Err-clause-ended g c =
    reported_ends g.W.Write.contents (Of_leaf c.args.command c.args.scenario.now c.args.leaf.now) _
    (by_leaf c.args.command c.args.scenario.now c.args.leaf.now) _ _ c.in-Err.fault c.reported.result c.reported.ensures c.in-Err.ensures

pub returns-in-Err-clause-leaves : goal.returns-in-Err-clause-leaves
returns-in-Err-clause-leaves g c =
    reported_leaves g.W.Write.contents (Of_leaf c.args.command c.args.scenario.now c.args.leaf.now) _
    (by_leaf c.args.command c.args.scenario.now c.args.leaf.now) _ _ c.in-Err.fault c.reported.result c.reported.ensures
    c.in-Err.ensures
