use Rattle.std.proofs.Common.{◌∙◌}
use Rattle.gq_caps.specs.declared.totals.Measure.TheVariants.{Places}
use Rattle.gq_verify.proofs.own_use.most_places.Goals as goal

pub returns-clause-most : goal.returns-clause-most
returns-clause-most c = c.places.ensures.places ∙ c.requires.most (Places c.args.class)
