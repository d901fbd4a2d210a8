-- Which leaf serves each service that a leaf opens.
use Rattle.std.specs.Prelude.{◌≡◌, ℕ, if◌then◌else◌, List, [], ◌∷◌, ◌++◌, map, Option, Some, None, is_some, slice_get}
use Rattle.gq_model.specs.machine.Program.{text_eq}
use Rattle.gq_model.specs.machine.Lists.{any_of}
use Rattle.gq_model.specs.machine.Scenario.{Scenario, Component, components, system}
use Rattle.gq_model.specs.machine.Routes.{route, leaf_routed, server_of}
use Rattle.gq_model.specs.rules.Use.{services}

-- these without a service
abbrev pub without : List ℕ → List (List ℕ) → List (List ℕ)
without service [] = []
without service (s ∷ rest) = if text_eq s service then without service rest else s ∷ without service rest

-- each of these once, where it stands first
abbrev pub once : List (List ℕ) → List (List ℕ)
once [] = []
once (s ∷ rest) = s ∷ without s (once rest)

-- a service after these, where it is not among them
abbrev pub added : List ℕ → List (List ℕ) → List (List ℕ)
added service services = if any_of (text_eq service) services then services else services ++ service ∷ []

-- a service with its server, where it has one
abbrev pub entry : List ℕ → Option ℕ → List (List ℕ × ℕ)
entry service None = []
entry service (Some server) = (service, server) ∷ []

-- services with their servers
abbrev pub served : (List ℕ → Option ℕ) → List (List ℕ) → List (List ℕ × ℕ)
served server [] = []
served server (s ∷ rest) = entry s (server s) ++ served server rest

-- the server to which a component's route leads, among these leaves
abbrev pub server_among : List Component → Component → List ℕ → Option ℕ
server_among all c service = leaf_routed (route c.levels service) all

-- the services that a component opens, each once, with their servers
abbrev pub leaf_routes : List Component → Component → List (List ℕ × ℕ)
leaf_routes all c = served (server_among all c) (once (services c))

-- those of each leaf
abbrev pub routes_of : Scenario → List (List (List ℕ × ℕ))
routes_of s = map (leaf_routes (components s)) (components s)

-- the server with this service
abbrev pub server_in : List ℕ → List (List ℕ × ℕ) → Option ℕ
server_in service [] = None
server_in service (e ∷ rest) = if text_eq service e.0 then Some e.1 else server_in service rest

abbrev pub server_reported : List ℕ → Option (List (List ℕ × ℕ)) → Option ℕ
server_reported service None = None
server_reported service (Some entries) = server_in service entries

-- the server of the x-th leaf's service
abbrev pub server_at : ℕ → List ℕ → List (List (List ℕ × ℕ)) → Option ℕ
server_at x service routes = server_reported service (slice_get routes x)

-- the servers alone
abbrev pub servers : List (List ℕ × ℕ) → List ℕ
servers entries = map (λ e. e.1) entries

-- the x-th leaf's server of each service that it opens is reported, and of no other; each of these has one
pub record AreServers (s : Scenario) (routes : List (List (List ℕ × ℕ))) : Type 0 where
  pub reported : (x : ℕ) (c : Component) → slice_get (components s) x ≡ Some c → (service : List ℕ)
      → server_at x service routes ≡ (if any_of (text_eq service) (services c) then server_of (system s) c service else None)
  pub each : (x : ℕ) (c : Component) → slice_get (components s) x ≡ Some c → (service : List ℕ)
      → is_some (server_at x service routes) ≡ any_of (text_eq service) (services c)
