-- The need, and three upgrades.
use Rattle.std.proofs.Common.{◌∙◌, ◌∷◌, []}
use Rattle.gq_sizes.proofs.Least_number_rows.{row_is}
use Rattle.gq_sizes.proofs.leasts.least_interface.Goals as goal

pub returns : goal.returns
returns c all given e rams capss endless =
    (λ j. c.least_need.ensures.least j ∷ c.least_upgrade.ensures.least j ∷ c.least_upgrade-2.ensures.least j ∷ c.least_upgrade-3.ensures.least j ∷ [])
    ∙ row_is all given e _ _ _ rams capss endless c.least_need.ensures.small c.least_upgrade.ensures.small_above c.least_upgrade-2.ensures.small_above
    c.least_upgrade-3.ensures.small_above
