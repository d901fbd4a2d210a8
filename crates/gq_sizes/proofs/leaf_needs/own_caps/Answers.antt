use Rattle.std.proofs.Common.{◌∙◌}
use Rattle.gq_sizes.specs.Point_maxima.{given_in}
use Rattle.gq_sizes.proofs.Least_leaves.{own_kept}
use Rattle.gq_sizes.proofs.leaf_needs.own_caps.Goals as goal

pub returns : goal.returns
returns c =
    let given = given_in c.args.given.now.interfaces.now c.args.given.now.sums.now in
    let own = c.most_own-own in
    c.saturating_add.ensures
    ∙ own_kept given c.args.verified.now own.result.slots c.heap_caps.result own.result.places own.ensures.slots c.heap_caps.ensures.eight own.ensures.places
    c.heap_caps.ensures.value
