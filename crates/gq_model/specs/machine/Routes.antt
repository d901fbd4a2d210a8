-- Where a service leads.
use Rattle.std.specs.Prelude.{ℕ, suc, if◌then◌else◌, Bool, true, false, List, [], ◌∷◌, ◌++◌, Option, Some, None}
use Rattle.gq_model.specs.machine.Program.{text_eq}
use Rattle.gq_model.specs.machine.Scenario.{Target, Child, Any_child, Parent, Route, Offers, Nodes, End, Leaf_node, Init_node, Level, Component, System}

-- the leaf to which a service leads, or why it leads nowhere
pub data Routed : Type 0 where
  To : (name : List ℕ) → Routed
  No_route Ambiguous Provides_differs : Routed

-- this service is provided
abbrev pub is_service : Option (List ℕ) → List ℕ → Bool
is_service None service = false
is_service (Some s) service = text_eq s service

-- an entry for a service or for any
abbrev pub fits : Option (List ℕ) → List ℕ → Bool
fits None service = true
fits (Some s) service = text_eq s service

-- the child that these offers name for a service
abbrev pub offer_of : Offers → List ℕ → Option (List ℕ)
offer_of [] service = None
offer_of (o ∷ rest) service = if text_eq service o.0 then Some o.1 else offer_of rest service

-- an init without an offer of a service does not serve it; else the child that is named has to
abbrev pub through : Option (List ℕ) → (List ℕ → Routed) → Routed
through None led = Provides_differs
through (Some child) led = led child

-- the child of that name has to serve the service: a leaf provides it, and the offers of an init lead on
abbrev pub child_named : List ℕ → List ℕ → Nodes → Routed
child_named name service End = No_route
child_named name service (Leaf_node node rest) =
    if text_eq name node.name then (if is_service node.provides service then To name else Provides_differs) else child_named name service rest
child_named name service (Init_node node children rest) =
    if text_eq name node.name then through (offer_of node.offers service) (λ child. child_named child service children)
    else child_named name service rest

-- an init that offers a service leads where its offer leads
abbrev pub offered : Option (List ℕ) → List ℕ → Nodes → List Routed
offered None service children = []
offered (Some child) service children = child_named child service children ∷ []

-- where those of these nodes lead that serve a service
abbrev pub providers : List ℕ → Nodes → List Routed
providers service End = []
providers service (Leaf_node node rest) = (if is_service node.provides service then To node.name ∷ [] else []) ++ providers service rest
providers service (Init_node node children rest) = offered (offer_of node.offers service) service children ++ providers service rest

-- any child is the one that serves the service
abbrev pub only : List Routed → Routed
only [] = No_route
only (served ∷ []) = served
only (served ∷ other ∷ rest) = Ambiguous

-- where a target leads, by what is answered one init up
abbrev pub led : Target → List ℕ → Nodes → Routed → Routed
led (Child name) service siblings above = child_named name service siblings
led Any_child service siblings above = only (providers service siblings)
led Parent service siblings above = above

-- the first entry that fits decides
abbrev pub first_fit : List Route → List ℕ → Nodes → Routed → Routed
first_fit [] service siblings above = No_route
first_fit (r ∷ routes) service siblings above =
    if fits r.service service then led r.target service siblings above else first_fit routes service siblings above

-- the question goes from a leaf's own init upwards; the root has no parent
abbrev pub route : List Level → List ℕ → Routed
route [] service = No_route
route (l ∷ above) service = first_fit l.routes service l.siblings (route above service)

-- the place of the leaf of that name, counted from n
abbrev pub numbered : ℕ → List ℕ → List Component → Option ℕ
numbered n name [] = None
numbered n name (c ∷ rest) = if text_eq name c.node.name then Some n else numbered (suc n) name rest

abbrev pub leaf_routed : Routed → List Component → Option ℕ
leaf_routed (To name) components = numbered 0 name components
leaf_routed No_route components = None
leaf_routed Ambiguous components = None
leaf_routed Provides_differs components = None

-- the server to which this component's route leads
abbrev pub server_of : System → Component → List ℕ → Option ℕ
server_of system c service = leaf_routed (route c.levels service) system.components
