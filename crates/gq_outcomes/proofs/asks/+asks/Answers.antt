use Rattle.std.proofs.Common.{arith}
use Rattle.gq_program.proofs.Statement_list_sizes.{size_here}
use Rattle.gq_outcomes.proofs.keys.Left.{width_here}
use Rattle.gq_outcomes.proofs.asks.+asks.Goals as goal

pub asked_at-asked_inside-requires : goal.asked_at-asked_inside-requires
asked_at-asked_inside-requires t c =
    let l = c.loop-number in
    let items = c.args.statements.now in
    let s = c.index-statements-number.result in
    let here = size_here items l.number s c.loop-number-test.true c.index-statements-number.is in
    let wide = width_here items l.number s c.loop-number-test.true c.index-statements-number.is in
    let within = l.invariant.wide in
    let small = c.requires in
    let test = c.if-left-width.true in
    let is = c.width_of-width.ensures in
    (omega (arith, c.decreases, here), (omega (arith, test, is), omega (arith, wide, within, small)))
