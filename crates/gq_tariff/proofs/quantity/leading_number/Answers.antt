use Rattle.std.proofs.Common.{◌∙◌, arith}
use Rattle.gq_tariff.proofs.Saturated_quantities.{quantity_on-step}
use Rattle.gq_tariff.proofs.quantity.leading_number.Goals as goal

pub loop-i-preserved : goal.loop-i-preserved
loop-i-preserved c =
    quantity_on-step c.args.text.now c.loop-i.i c.loop-i.number _ (omega arith) (cc) (cc) ∙ c.loop-i.invariant
