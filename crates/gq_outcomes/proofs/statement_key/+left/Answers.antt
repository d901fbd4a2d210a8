use Rattle.std.proofs.Common.{arith}
use Rattle.gq_program.proofs.Statement_list_sizes.{size_here}
use Rattle.gq_outcomes.proofs.keys.Left.{width_here}
use Rattle.gq_outcomes.proofs.statement_key.+left.Goals as goal

pub push_left-push_inside-requires : goal.push_left-push_inside-requires
push_left-push_inside-requires t c =
    let l = c.loop-number in
    let items = c.args.statements.now in
    let s = c.index-statements-number.result in
    let here = size_here items l.number s c.loop-number-test.true c.index-statements-number.is in
    let wide = width_here items l.number s c.loop-number-test.true c.index-statements-number.is in
    let within = l.invariant.wide in
    let small = c.requires.small in
    let shallow = c.requires.shallow in
    let test = c.if-left-width.true in
    let is = c.width_of-width.ensures in
    (omega (arith, c.decreases, here), (omega (arith, test, is), (omega (arith, wide, within, small), omega (arith, wide, within, shallow))))
