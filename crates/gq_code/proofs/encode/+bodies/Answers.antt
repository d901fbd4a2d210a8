use Rattle.std.proofs.Common.{ap, arith}
use Rattle.gq_model.specs.machine.Program.{size}
use Rattle.gq_code.proofs.Coded_statements.{has_here}
use Rattle.gq_program.proofs.Statement_list_sizes.{size_here}
use Rattle.gq_code.proofs.encode.+bodies.Goals as goal

pub encode_body-write_statement-requires : goal.encode_body-write_statement-requires
encode_body-write_statement-requires t c =
    let l = c.loop-statement in
    let items = c.statements-statement-items.result.now in
    let less = size_here items l.statement-index c.statement-item.result c.loop-statement-test.true c.statement-item.is in (
      omega (arith, c.decreases, less, ap size c.statements-statement-items.ensures),
      has_here items l.statement-index c.statement-item.result c.loop-statement-test.true c.statement-item.is l.invariant.in_range,
    )
