-- A statement is no larger than the list that it stands in.
use Rattle.std.proofs.Common.{ap, arith}
use Rattle.gq_model.specs.machine.Program.{size}
use Rattle.gq_program.proofs.Statement_list_sizes.{size_here}
use Rattle.gq_traces.proofs.numbered_program.+sizes.Goals as goal

pub size_of_all-size_of-count-requires : goal.size_of_all-size_of-count-requires
size_of_all-size_of-count-requires t c =
    let l = c.loop-statement in
    let items = c.statements-statement-items.result.now in
    let here = size_here items l.statement-index c.statement-item.result c.loop-statement-test.true c.statement-item.is in
    let all = ap size c.statements-statement-items.ensures in
    (omega (arith, c.decreases, here, all), omega (arith, c.requires, here, all))
