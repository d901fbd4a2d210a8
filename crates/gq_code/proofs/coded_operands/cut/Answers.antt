use Rattle.gq_code.proofs.Code_byte_parts.{cut-short, cut-take}
use Rattle.gq_code.proofs.coded_operands.cut.Goals as goal

pub returns-then-count-bytes-clause-parts : goal.returns-then-count-bytes-clause-parts
returns-then-count-bytes-clause-parts c = cut-short c.args.count c.args.fault c.args.bytes.now c.if-count-bytes.true

pub returns-clause-parts : goal.returns-clause-parts
returns-clause-parts c = cut-take c.args.count c.args.fault c.args.bytes.now c.if-count-bytes.false
