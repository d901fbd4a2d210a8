use Rattle.std.proofs.Common.{◌≡◌, drop}
use Rattle.gq_tariff.specs.Quantities.{quantity_on, at_most_40_bits}
use Rattle.gq_tariff.proofs.quantity.leading_number.Given as goal

-- what is left is read after the number as the whole text is after 0
abbrev pub invariant-loop-i : goal.invariant-loop-i
invariant-loop-i l = at_most_40_bits (quantity_on l.number (drop l.i l.text)) ≡ at_most_40_bits (quantity_on 0 l.text)
