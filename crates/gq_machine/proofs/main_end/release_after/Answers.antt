-- Who waited runs.
use Rattle.std.proofs.Common.{arith}
use Rattle.gq_model.proofs.Small_facts.{get_within}
use Rattle.gq_machine.proofs.Released_leaves.{all_released, none_below, one_below}
use Rattle.gq_machine.proofs.Stepping_leaf_facts.{item_there}
use Rattle.gq_machine.proofs.main_end.release_after.Goals as goal

pub loop-place-init : goal.loop-place-init
loop-place-init c = none_below c.args.table.now c.args.number c.args.leaves.now.items

pub loop-place-preserved : goal.loop-place-preserved
loop-place-preserved c =
    let place = c.loop-place.place in
    let ms = c.loop-place.leaves.items in
    let found = get_within ms place (omega (arith, c.loop-place-test.true, c.len-place-end.ensures, c.loop-place.invariant.count)) in
    one_below c.args.table.now c.args.number c.args.leaves.now.items place ms c.index_mut-leaf.result.now c.release.new.leaf c.loop-place.invariant
    (item_there ms place found.0 c.index_mut-leaf.result.now found.1 c.index_mut-leaf.ensures.value) c.release.ensures

pub returns : goal.returns
returns c = all_released c.args.table.now c.args.number c.args.leaves.now.items c.loop-place.place c.loop-place.leaves.items c.loop-place.invariant
    (omega (arith, c.loop-place-test.false, c.len-place-end.ensures))
