use Rattle.std.proofs.Common.{arith}
use Rattle.gq_caps.specs.declared.totals.Measure.TheVariants.{Ram, Caps, Places}
use Rattle.gq_caps.proofs.totals.Totals.once_changed.Goals as goal

pub paid-requires-then-takes_no_place-2-2-clause-ram : goal.paid-requires-then-takes_no_place-2-2-clause-ram
paid-requires-then-takes_no_place-2-2-clause-ram c = omega (arith, c.requires.gone Ram, c.paid.ensures.ram)

pub paid-requires-then-takes_no_place-2-2-clause-caps : goal.paid-requires-then-takes_no_place-2-2-clause-caps
paid-requires-then-takes_no_place-2-2-clause-caps c = omega (arith, c.requires.gone Caps, c.paid.ensures.caps)

pub returns-then-takes_no_place-2-clause-changed : goal.returns-then-takes_no_place-2-clause-changed
returns-then-takes_no_place-2-clause-changed c Ram =
    omega (arith, c.paid-then-takes_no_place-2-2.ensures.ram, c.paid.ensures.ram, c.paid-then-takes_no_place-2.ensures.ram)
returns-then-takes_no_place-2-clause-changed c Caps =
    omega (arith, c.paid-then-takes_no_place-2-2.ensures.caps, c.paid.ensures.caps, c.paid-then-takes_no_place-2.ensures.caps)
returns-then-takes_no_place-2-clause-changed c (Places class) =
    omega (
      arith,
      c.paid-then-takes_no_place-2-2.ensures.places class,
      c.takes_no_place.ensures c.if-takes_no_place.true class,
      c.takes_no_place-then-takes_no_place.ensures c.if-takes_no_place-2.true class,
    )

pub returns-then-takes_no_place-2-clause-small : goal.returns-then-takes_no_place-2-clause-small
returns-then-takes_no_place-2-clause-small c Ram = omega (arith, c.paid-then-takes_no_place-2.ensures.ram, c.paid-then-takes_no_place-2.ensures.small)
returns-then-takes_no_place-2-clause-small c Caps = omega (arith, c.paid-then-takes_no_place-2.ensures.caps, c.paid-then-takes_no_place-2.ensures.few)
returns-then-takes_no_place-2-clause-small c (Places class) = omega (arith, c.takes_no_place-then-takes_no_place.ensures c.if-takes_no_place-2.true class)

pub moved-requires-clause-gone : goal.moved-requires-clause-gone
moved-requires-clause-gone c m = omega (arith, c.requires.gone m, c.weights.ensures.weights m)

pub moved-requires-clause-come : goal.moved-requires-clause-come
moved-requires-clause-come c m = omega (arith, c.weights-2.ensures.small m, c.weights-2.ensures.weights m)

pub returns-clause-changed : goal.returns-clause-changed
returns-clause-changed c m = omega (arith, c.moved.ensures m, c.weights.ensures.weights m, c.weights-2.ensures.weights m)
