use Rattle.std.proofs.Common.{arith, refl}
use Rattle.gq_tariff.specs.declared.class.Class.TheVariants.{Bytes16, Bytes32, Bytes64, Bytes128, Bytes256, Bytes512, Bytes1024, Bytes2048}
use Rattle.gq_caps.specs.declared.totals.Measure.TheVariants.{Ram, Caps}
use Rattle.gq_caps.proofs.totals.Totals.paid.Goals as goal

pub overflow_add-result : goal.overflow_add-result
overflow_add-result c = omega (arith, c.requires.ram, c.requires.few Ram, c.requires.small)

pub overflow_add-result-2 : goal.overflow_add-result-2
overflow_add-result-2 c = omega (arith, c.requires.caps, c.requires.few Caps, c.requires.small_caps)

pub returns-clause-places : goal.returns-clause-places
returns-clause-places c Bytes16 = refl
returns-clause-places c Bytes32 = refl
returns-clause-places c Bytes64 = refl
returns-clause-places c Bytes128 = refl
returns-clause-places c Bytes256 = refl
returns-clause-places c Bytes512 = refl
returns-clause-places c Bytes1024 = refl
returns-clause-places c Bytes2048 = refl
