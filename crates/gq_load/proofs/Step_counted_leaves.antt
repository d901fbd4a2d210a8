-- Leaves, as their steps are counted by.
use Rattle.std.proofs.Common.{◌≡◌, List, [], ◌∷◌, refl, ap}
use Rattle.gq_model.specs.machine.Scenario.{System, Component}
use Rattle.gq_budget.specs.Leaf_routes.{leaf_of, leaves_from}
use Rattle.gq_load.specs.internal.Counted_leaves.{counted_leaves}

pub leaves_same : (system : System) (cs : List Component) → counted_leaves system.interfaces cs ≡ leaves_from system cs
leaves_same system [] = refl
leaves_same system (c ∷ rest) = ap (λ l. leaf_of system c ∷ l) (leaves_same system rest)
