use Rattle.std.proofs.Common.{arith, length}
use Rattle.gq_code.proofs.Code_byte_parts.{below_4}
use Rattle.gq_code.proofs.coded_operands.number.Goals as goal

pub overflow_cast-result : goal.overflow_cast-result
overflow_cast-result c =
    below_4 c.spelled.result (length c.in_ok-number.number.now) c.spelled.ensures.small (omega (arith, c.in_ok-number.ensures.first, c.requires))
