use Rattle.std.proofs.Common.{◌∙◌, sym}
use Rattle.gq_sizes.proofs.Least_leaves.{after_found}
use Rattle.gq_sizes.proofs.leaf_needs.starts_after.Goals as goal

pub returns-then-is_after-clause-next : goal.returns-then-is_after-clause-next
returns-then-is_after-clause-next c =
    after_found c.args.name.now c.args.components.now c.loop-place.place c.index-components-place.result c.loop-place-test.true
    c.index-components-place.is (sym c.is_after.ensures ∙ c.if-is_after.true) c.loop-place.invariant
