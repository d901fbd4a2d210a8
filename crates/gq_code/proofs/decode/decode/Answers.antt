use Rattle.std.proofs.Common.{arith}
use Rattle.std.proofs.lemmas.Result.{err_from_is_err_and}
use Rattle.gq_model.proofs.Decoded_programs.{decoded_is}
use Rattle.gq_code.proofs.Operand_type_ranges.{all_between}
use Rattle.gq_code.proofs.Coded_section_limits.{program, decoded_ok, decoded_err}
use Rattle.gq_code.proofs.decode.decode.Goals as goal

pub from_parts-requires : goal.from_parts-requires
from_parts-requires c =
    (decoded_is c.args.bytes.now (program c.in_ok-limits.limits c.in_ok-sections.sections.items) (all_between 255 c.args.bytes.now (λ k.
    let h = c.type_inv.bytes k in omega (arith, h)))
    (decoded_ok c.args.bytes.now c.in_ok-bits.rest.now c.in_ok-limits.rest.now c.in_ok-present.rest.now c.in_ok-limits.limits c.in_ok-bits.bits
    c.in_ok-present.present c.in_ok-sections.sections.items c.in_ok-bits.ensures.number c.in_ok-limits.ensures c.in_ok-present.ensures.number
    c.in_ok-sections.ensures)).program

pub returns-in_err-sections : goal.returns-in_err-sections
returns-in_err-sections c =
    let p = err_from_is_err_and c.from_residual-in_err-sections.result c.from_residual-in_err-sections.ensures.1 in
    rw (p.1, p.2) (decoded_err c.args.bytes.now c.in_ok-bits.rest.now c.in_ok-limits.rest.now c.in_ok-present.rest.now c.in_ok-limits.limits c.in_ok-bits.bits
    c.in_ok-present.present c.in_err-sections.field-0.0 c.in_ok-bits.ensures.number c.in_ok-limits.ensures c.in_ok-present.ensures.number
    c.in_err-sections.ensures)

pub returns : goal.returns
returns c =
    rw c.from_parts.ensures
    (decoded_ok c.args.bytes.now c.in_ok-bits.rest.now c.in_ok-limits.rest.now c.in_ok-present.rest.now c.in_ok-limits.limits c.in_ok-bits.bits
    c.in_ok-present.present c.in_ok-sections.sections.items c.in_ok-bits.ensures.number c.in_ok-limits.ensures c.in_ok-present.ensures.number
    c.in_ok-sections.ensures)
