use Rattle.std.proofs.Common.{arith, length, take, drop, ◌-◌}
use Rattle.gq_code.proofs.Code_byte_parts.{below, rest_length}
use Rattle.gq_code.proofs.coded_operands.+little.Goals as goal

pub overflow_mul-result : goal.overflow_mul-result
overflow_mul-result t c =
    let b = c.args.bytes.now in
    let l = rest_length b c.in-len1-up.len_at_least in
    let h = below c.little-above.result (length (take (length b - 1) (drop 1 b))) c.little-above.ensures.small (omega (arith, l, c.requires)) in
    omega (arith, h)

pub overflow_add-result : goal.overflow_add-result
overflow_add-result t c =
    let b = c.args.bytes.now in
    let l = rest_length b c.in-len1-up.len_at_least in
    let h = below c.little-above.result (length (take (length b - 1) (drop 1 b))) c.little-above.ensures.small (omega (arith, l, c.requires)) in
    omega (arith, h, c.from.ensures, c.type_inv.bytes 0)
