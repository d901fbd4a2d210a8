-- All leaves give what is asked, or one does not.
use Rattle.std.proofs.Common.{◌∙◌, sym}
use Rattle.gq_model.specs.machine.Lists.{all_of}
use Rattle.gq_sizes.specs.Gives.{leaf_gives_right}
use Rattle.gq_sizes.proofs.Giving_right.{all_end, all_here, all_next}
use Rattle.gq_sizes.proofs.gives.all_give.Goals as goal

pub loop-verified-preserved : goal.loop-verified-preserved
loop-verified-preserved c =
    let f = leaf_gives_right c.args.interfaces.now in
    all_next f c.args.leaves.now c.loop-verified.verified-index (all_of f c.args.leaves.now) c.verified-item.result c.loop-verified-test.true
    c.verified-item.is (sym c.leaf_gives.ensures ∙ c.if-not-leaf_gives.false) c.loop-verified.invariant

pub returns-then-not-leaf_gives : goal.returns-then-not-leaf_gives
returns-then-not-leaf_gives c =
    let f = leaf_gives_right c.args.interfaces.now in
    all_here f c.args.leaves.now c.loop-verified.verified-index (all_of f c.args.leaves.now) c.verified-item.result c.loop-verified-test.true
    c.verified-item.is (sym c.leaf_gives.ensures ∙ c.if-not-leaf_gives.true) c.loop-verified.invariant

pub returns : goal.returns
returns c =
    let f = leaf_gives_right c.args.interfaces.now in
    all_end f c.args.leaves.now c.loop-verified.verified-index (all_of f c.args.leaves.now) c.loop-verified-test.false c.loop-verified.invariant
