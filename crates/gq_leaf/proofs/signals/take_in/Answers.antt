use Rattle.gq_leaf.proofs.Signal_counts.{set_taken}
use Rattle.gq_leaf.proofs.signals.take_in.Goals as goal

pub returns : goal.returns
returns c = set_taken c.args.signals.now c.args.number
