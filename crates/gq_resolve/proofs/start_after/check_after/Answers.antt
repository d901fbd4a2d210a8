use Rattle.std.proofs.Common.{◌∙◌}
use Rattle.gq_resolve.proofs.Afters_named.{not_bad}
use Rattle.gq_resolve.proofs.start_after.check_after.Goals as goal

pub loop-place-preserved : goal.loop-place-preserved
loop-place-preserved c =
    not_bad c.args.components.now c.loop-place.place c.index-components-place.result c.loop-place-test.true c.index-components-place.is c.is_bad_after.result
    c.is_bad_after.ensures c.if-is_bad_after.false
    ∙ c.loop-place.invariant
