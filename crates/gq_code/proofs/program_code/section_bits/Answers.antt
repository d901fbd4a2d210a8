use Rattle.gq_code.proofs.Section_order_bits.{bits_fit}
use Rattle.gq_code.proofs.program_code.section_bits.Goals as goal

pub overflow_add-bits : goal.overflow_add-bits
overflow_add-bits c =
    let l = c.loop-section in
    bits_fit c.args.sections.now l.section-index c.loop-section-item.result l.bits c.section_bit-bits.result c.loop-section-test.true c.loop-section-item.is
    l.invariant.sum c.section_bit-bits.ensures c.requires
