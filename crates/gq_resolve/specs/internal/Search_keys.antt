-- The numbers that are made of the names of services and of leaves.
use Rattle.std.specs.Prelude.{◌≡◌, ℕ, Bool, true, false, ◌&&◌, List, [], ◌∷◌, map, Option, Some, None}
use Rattle.gq_program.specs.Name_keys.{KeyRanges, AreWithin, key_of}
use Rattle.gq_model.specs.machine.Scenario.{Offers, Nodes, End, Leaf_node, Init_node, Level, Component}
use Rattle.gq_scenario.specs.declared.scenario.Node.{Node}
use Rattle.gq_scenario.specs.declared.scenario.Node.TheVariants.{Leaf, Init}

-- that of a service, where one is provided
abbrev pub provided_key : Option (List ℕ) → ℕ
provided_key None = 0
provided_key (Some service) = key_of service

-- that of a node, as code has it
abbrev pub node_key : Node → ℕ
node_key (Leaf node) = provided_key node.provides
node_key (Init node children) = 0

-- those of these nodes
abbrev pub keys_of : Nodes → List ℕ
keys_of End = []
keys_of (Leaf_node node rest) = provided_key node.provides ∷ keys_of rest
keys_of (Init_node node children rest) = 0 ∷ keys_of rest

-- nothing is offered
abbrev pub is_silent : Offers → Bool
is_silent [] = true
is_silent (o ∷ rest) = false

-- no init among these offers anything
abbrev pub are_silent : Nodes → Bool
are_silent End = true
are_silent (Leaf_node node rest) = are_silent rest
are_silent (Init_node node children rest) = is_silent node.offers && are_silent rest

-- the siblings at the first level
abbrev pub first_siblings : List Level → Nodes
first_siblings [] = End
first_siblings (l ∷ above) = l.siblings

-- it is reported where services may stand among these, of which no init offers anything
abbrev pub AreReportedOf : KeyRanges → Nodes → Type 0
AreReportedOf reported siblings = AreWithin reported (keys_of siblings) × (are_silent siblings ≡ true)

-- where it is reported where services may stand, it is reported of the siblings at the first level
abbrev pub AreReported : Option KeyRanges → List Level → Type 0
AreReported None levels = Unit {0}
AreReported (Some reported) levels = AreReportedOf reported (first_siblings levels)

-- those of the names of leaves
abbrev pub name_keys : List Component → List ℕ
name_keys components = map (λ c. key_of c.node.name) components

-- those of the services of routes
abbrev pub route_keys : List (List ℕ × ℕ) → List ℕ
route_keys routes = map (λ e. key_of e.0) routes
