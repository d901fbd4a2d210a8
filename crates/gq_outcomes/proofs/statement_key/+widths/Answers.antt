use Rattle.std.proofs.Common.{arith}
use Rattle.gq_program.proofs.Statement_list_sizes.{size_here}
use Rattle.gq_outcomes.proofs.keys.Left.{width_here}
use Rattle.gq_outcomes.proofs.statement_key.+widths.Goals as goal

pub width-width_of-count-requires : goal.width-width_of-count-requires
width-width_of-count-requires t c =
    let l = c.loop-statement in
    let here = size_here c.args.statements.now l.statement-index c.statement-item.result c.loop-statement-test.true c.statement-item.is in
    let wide = width_here c.args.statements.now l.statement-index c.statement-item.result c.loop-statement-test.true c.statement-item.is in
    (omega (arith, c.decreases, here), omega (arith, c.requires, wide, l.invariant))
