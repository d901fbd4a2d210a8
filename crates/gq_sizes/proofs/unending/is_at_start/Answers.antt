use Rattle.std.proofs.Common.{◌∙◌, ap}
use Rattle.gq_sizes.specs.Endless.{at_start, endless_at}
use Rattle.gq_sizes.proofs.Leaves_endless.{entry_is}
use Rattle.gq_sizes.proofs.unending.is_at_start.Goals as goal

pub returns-in-None : goal.returns-in-None
returns-in-None c all e =
    let x = c.args.leaf in c.is_at.ensures ∙ (entry_is all c.args.endless.now e x ∙ ap (λ o. at_start o (endless_at all x)) c.in-None.ensures)
