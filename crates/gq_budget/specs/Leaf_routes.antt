-- Leaves, and whose routes lead to them.
use Rattle.std.specs.Prelude.{ℕ, suc, Bool, false, List, [], ◌∷◌, Option, Some, None}
use Rattle.gq_model.specs.machine.Scenario.{System, Component}
use Rattle.gq_model.specs.machine.Routes.{server_of}
use Rattle.gq_model.specs.rules.Kinds.{Subject}
use Rattle.gq_model.specs.rules.Use.{subject, is_there}

-- what a leaf's program is judged by, and the service that it provides
pub record BudgetLeaf : Type 0 where
  pub subject : Subject
  pub provides : Option (List ℕ)

abbrev pub leaf_of : System → Component → BudgetLeaf
leaf_of system c = record { subject = subject system c; provides = c.node.provides }

abbrev pub leaves_from : System → List Component → List BudgetLeaf
leaves_from system [] = []
leaves_from system (c ∷ rest) = leaf_of system c ∷ leaves_from system rest

-- the leaves of a system
abbrev pub leaves_of : System → List BudgetLeaf
leaves_of system = leaves_from system system.components

-- whether the routes of these leaves for the service that the x-th leaf provides lead to it
abbrev pub leads_for : System → ℕ → Option (List ℕ) → List Component → List Bool
leads_for system x provides [] = []
leads_for system x None (c ∷ rest) = false ∷ leads_for system x None rest
leads_for system x (Some service) (c ∷ rest) = is_there x (server_of system c service) ∷ leads_for system x (Some service) rest

-- the same of the leaves from the x-th on, each with all leaves
abbrev pub leads_from : System → ℕ → List Component → List (List Bool)
leads_from system x [] = []
leads_from system x (c ∷ rest) = leads_for system x c.node.provides system.components ∷ leads_from system (suc x) rest

-- for each leaf, which leaves' routes for its service lead to it
abbrev pub leads_of : System → List (List Bool)
leads_of system = leads_from system 0 system.components
