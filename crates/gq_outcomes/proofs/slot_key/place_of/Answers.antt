use Rattle.std.proofs.Common.{arith}
use Rattle.gq_outcomes.proofs.Key_lists.{no_place, place_here, place_later}
use Rattle.gq_outcomes.proofs.slot_key.place_of.Goals as goal

pub returns-then-order-place : goal.returns-then-order-place
returns-then-order-place c =
    let l = c.loop-place in
    let here = place_here c.args.order.now l.place c.args.session c.loop-place-test.true c.if-order-place.true in
    let so_far = l.invariant in
    omega (arith, here, so_far)

pub loop-place-preserved : goal.loop-place-preserved
loop-place-preserved c =
    let l = c.loop-place in
    let later = place_later c.args.order.now l.place c.args.session c.loop-place-test.true c.if-order-place.false in
    let so_far = l.invariant in
    omega (arith, later, so_far)

pub returns : goal.returns
returns c =
    let l = c.loop-place in
    let none = no_place c.args.order.now l.place c.args.session c.loop-place-test.false in
    let so_far = l.invariant in
    omega (arith, none, so_far)
