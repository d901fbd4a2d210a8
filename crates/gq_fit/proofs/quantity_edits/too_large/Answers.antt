use Rattle.gq_fit.proofs.Due_quantities.{too_large}
use Rattle.gq_fit.proofs.quantity_edits.too_large.Goals as goal

pub returns : goal.returns
returns c has = too_large c.args.key c.copied.result c.args.name.now has c.args.least c.copied.ensures c.requires
