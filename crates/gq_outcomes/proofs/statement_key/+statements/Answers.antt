use Rattle.std.proofs.Common.{arith}
use Rattle.gq_program.proofs.Statement_list_sizes.{size_here}
use Rattle.gq_outcomes.proofs.statement_key.+statements.Goals as goal

pub push_all-push_statement-requires : goal.push_all-push_statement-requires
push_all-push_statement-requires t c =
    let l = c.loop-statement in
    let here = size_here c.args.statements.now l.statement-index c.statement-item.result c.loop-statement-test.true c.statement-item.is in
    (omega (arith, c.decreases, here), tt)
