use Rattle.std.proofs.Common.{arith}
use Rattle.gq_tariff.specs.declared.class.Class.TheVariants.{Bytes16, Bytes32, Bytes64, Bytes128, Bytes256, Bytes512, Bytes1024, Bytes2048}
use Rattle.gq_caps.specs.declared.totals.Measure.TheVariants.{Ram, Caps, Places}
use Rattle.gq_caps.proofs.totals.Totals.moved.Goals as goal

pub overflow_sub-result : goal.overflow_sub-result
overflow_sub-result c = c.requires.gone Ram

pub overflow_add-result : goal.overflow_add-result
overflow_add-result c = omega (arith, c.requires.gone Ram, c.requires.small Ram, c.requires.come Ram)

pub overflow_sub-result-2 : goal.overflow_sub-result-2
overflow_sub-result-2 c = c.requires.gone Caps

pub overflow_add-result-2 : goal.overflow_add-result-2
overflow_add-result-2 c = omega (arith, c.requires.gone Caps, c.requires.small Caps, c.requires.come Caps)

pub overflow_sub-result-3 : goal.overflow_sub-result-3
overflow_sub-result-3 c = c.requires.gone (Places Bytes16)

pub overflow_add-result-3 : goal.overflow_add-result-3
overflow_add-result-3 c = omega (arith, c.requires.gone (Places Bytes16), c.requires.small (Places Bytes16), c.requires.come (Places Bytes16))

pub overflow_sub-result-4 : goal.overflow_sub-result-4
overflow_sub-result-4 c = c.requires.gone (Places Bytes32)

pub overflow_add-result-4 : goal.overflow_add-result-4
overflow_add-result-4 c = omega (arith, c.requires.gone (Places Bytes32), c.requires.small (Places Bytes32), c.requires.come (Places Bytes32))

pub overflow_sub-result-5 : goal.overflow_sub-result-5
overflow_sub-result-5 c = c.requires.gone (Places Bytes64)

pub overflow_add-result-5 : goal.overflow_add-result-5
overflow_add-result-5 c = omega (arith, c.requires.gone (Places Bytes64), c.requires.small (Places Bytes64), c.requires.come (Places Bytes64))

pub overflow_sub-result-6 : goal.overflow_sub-result-6
overflow_sub-result-6 c = c.requires.gone (Places Bytes128)

pub overflow_add-result-6 : goal.overflow_add-result-6
overflow_add-result-6 c = omega (arith, c.requires.gone (Places Bytes128), c.requires.small (Places Bytes128), c.requires.come (Places Bytes128))

pub overflow_sub-result-7 : goal.overflow_sub-result-7
overflow_sub-result-7 c = c.requires.gone (Places Bytes256)

pub overflow_add-result-7 : goal.overflow_add-result-7
overflow_add-result-7 c = omega (arith, c.requires.gone (Places Bytes256), c.requires.small (Places Bytes256), c.requires.come (Places Bytes256))

pub overflow_sub-result-8 : goal.overflow_sub-result-8
overflow_sub-result-8 c = c.requires.gone (Places Bytes512)

pub overflow_add-result-8 : goal.overflow_add-result-8
overflow_add-result-8 c = omega (arith, c.requires.gone (Places Bytes512), c.requires.small (Places Bytes512), c.requires.come (Places Bytes512))

pub overflow_sub-result-9 : goal.overflow_sub-result-9
overflow_sub-result-9 c = c.requires.gone (Places Bytes1024)

pub overflow_add-result-9 : goal.overflow_add-result-9
overflow_add-result-9 c = omega (arith, c.requires.gone (Places Bytes1024), c.requires.small (Places Bytes1024), c.requires.come (Places Bytes1024))

pub overflow_sub-result-10 : goal.overflow_sub-result-10
overflow_sub-result-10 c = c.requires.gone (Places Bytes2048)

pub overflow_add-result-10 : goal.overflow_add-result-10
overflow_add-result-10 c = omega (arith, c.requires.gone (Places Bytes2048), c.requires.small (Places Bytes2048), c.requires.come (Places Bytes2048))
