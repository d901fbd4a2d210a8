use Rattle.gq_leaf.proofs.Signal_counts.{set_submitted}
use Rattle.gq_leaf.proofs.signals.submit_in.Goals as goal

pub returns : goal.returns
returns c = set_submitted c.args.signals.now c.args.number
