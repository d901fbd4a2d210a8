use Rattle.std.proofs.Common.{ap, arith}
use Rattle.gq_model.specs.machine.Program.{size}
use Rattle.gq_program.proofs.Statement_list_sizes.{size_here}
use Rattle.gq_program.proofs.program_check.+checks.Goals as goal

pub is_body-is_statement-requires : goal.is_body-is_statement-requires
is_body-is_statement-requires t c =
    let l = c.loop-statement in
    omega (
      arith,
      c.decreases,
      size_here c.statements-statement-items.result.now l.statement-index c.statement-item.result c.loop-statement-test.true c.statement-item.is,
      ap size c.statements-statement-items.ensures,
    )
