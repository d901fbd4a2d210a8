use Rattle.std.proofs.Common.{◌≤◌, ◌==◌, if◌then◌else◌, ℕ, Bool, true, false, arith}
use Rattle.gq_tariff.specs.Prices.{class_size}
use Rattle.gq_caps.specs.declared.totals.Measure.TheVariants.{Ram, Caps, Places}
use Rattle.gq_caps.proofs.kind.Kind.weights.Goals as goal

at_most : (b : Bool) (n m : ℕ) → n ≤ m → (if b then n else 0) ≤ m
at_most true n m h = h
at_most false n m h = omega arith

pub returns-clause-small : goal.returns-clause-small
returns-clause-small c Ram = omega (arith, c.paid-paid.ensures.ram, c.paid-paid.ensures.small)
returns-clause-small c Caps = omega (arith, c.paid-paid.ensures.caps, c.paid-paid.ensures.few)
returns-clause-small c (Places class) =
    let places = c.heap_places-size.result in
    let e = c.heap_places-size.ensures.places class in
    omega (arith, e, at_most (places.0 == class_size class) places.1 65535 c.heap_places-size.ensures.small)
