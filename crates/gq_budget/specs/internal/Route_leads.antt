-- Whose routes lead to whom, among leaves.
use Rattle.std.specs.Prelude.{◌≡◌, ℕ, suc, Bool, false, ◌&&◌, List, [], ◌∷◌, Option, Some, None, slice_get}
use Rattle.gq_model.specs.machine.Scenario.{Component}
use Rattle.gq_model.specs.rules.Use.{is_there}
use Rattle.gq_resolve.specs.Served.{server_among, server_at}
use Rattle.gq_budget.specs.Leaf_section_counts.{Counted, asks}

-- where routes report a server of a service of one of these leaves, its route leads there
abbrev pub AreReported : List Component → List (List (List ℕ × ℕ)) → Type 0
AreReported all routes = (x : ℕ) (c : Component) → slice_get all x ≡ Some c → (service : List ℕ) (server : ℕ) → server_at x service routes ≡ Some server →
    server_among all c service ≡ Some server

-- whether a component asks for a service and its route for it leads to the x-th of all leaves
abbrev pub leads_to : List Component → ℕ → List ℕ → Component → Counted → Bool
leads_to all x service c n = asks service n && is_there x (server_among all c service)

-- the same of these leaves; of no service nothing is reported
abbrev pub leads_row : List Component → ℕ → Option (List ℕ) → List Component → List Counted → List Bool
leads_row all x None cs ns = []
leads_row all x (Some service) [] ns = []
leads_row all x (Some service) (c ∷ rest) [] = []
leads_row all x (Some service) (c ∷ rest) (n ∷ ns) = leads_to all x service c n ∷ leads_row all x (Some service) rest ns

-- for each of these leaves, of which the first is the x-th, which of all leaves ask for its service by routes that lead to it
abbrev pub leads_rows : List Component → List Counted → ℕ → List Component → List (List Bool)
leads_rows all ns x [] = []
leads_rows all ns x (c ∷ rest) = leads_row all x c.node.provides all ns ∷ leads_rows all ns (suc x) rest
