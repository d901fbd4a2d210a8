use Rattle.std.proofs.Common.{ap, arith}
use Rattle.gq_model.specs.machine.Program.{size}
use Rattle.gq_program.proofs.Statement_list_sizes.{size_here}
use Rattle.gq_races.proofs.conflicts.+conflicts.Goals as goal

pub has_conflicts-has_conflict-requires : goal.has_conflicts-has_conflict-requires
has_conflicts-has_conflict-requires t c =
    let l = c.loop-statement in
    let items = c.statements-statement-items.result.now in
    let here = size_here items l.statement-index c.statement-item.result c.loop-statement-test.true c.statement-item.is in
    (omega (arith, c.decreases, here, ap size c.statements-statement-items.ensures), tt)
