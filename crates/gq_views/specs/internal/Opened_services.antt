-- The services that leaves open with the leaves that serve them, as the code keeps them.
use Rattle.std.specs.Prelude.{◌≡◌, ℕ, List, [], ◌∷◌, ◌++◌, map, Option, Some, None, codes, slice_get}
use Rattle.gq_model.specs.machine.Routes.{numbered}
use Rattle.gq_model.specs.machine.Scenario.{Scenario, Component, System, components, system}
use Rattle.gq_model.specs.rules.Accept.{Budget, budgets}
use Rattle.gq_model.specs.rules.Use.{services}
use Rattle.gq_resolve.specs.NodeTables.{number_named}
use Rattle.gq_resolve.specs.Served.{server_among}
use Rattle.gq_laws.specs.Ready.{IsReady}
use Rattle.gq_views.specs.internal.Table_leaves.{LeafOfAll, served_by}
use Rattle.gq_views.specs.Listing.{line}
use Rattle.gq_views.specs.Tree.{arrow_to, first_of_each, in_quotes, server_label}

-- these services of a leaf, each with its server
abbrev pub opened_among : List Component → Component → List (List ℕ) → List (List ℕ × Option ℕ)
opened_among all c services = map (λ service. (service, server_among all c service)) services

-- these services of a leaf, each with the server that the table of nodes has
abbrev pub opened_by_table : LeafOfAll → List (List ℕ) → List (List ℕ × Option ℕ)
opened_by_table l services = map (λ service. (service, served_by l service)) services

-- those that a leaf opens, each once
abbrev pub opened_by : List Component → Component → List (List ℕ × Option ℕ)
opened_by all c = opened_among all c (first_of_each [] (services c))

abbrev pub opened_by_all : List Component → List Component → List (List (List ℕ × Option ℕ))
opened_by_all all cs = map (opened_by all) cs

abbrev pub opened_of : List Component → Option Component → List (List ℕ × Option ℕ)
opened_of all None = []
opened_of all (Some c) = opened_by all c

-- those of the leaf at a place
abbrev pub opened_at : Scenario → ℕ → List (List ℕ × Option ℕ)
opened_at s x = opened_of (components s) (slice_get (components s) x)

-- the leaf that a leaf starts after
abbrev pub started_after : Scenario → Option Component → Option ℕ
started_after s None = None
started_after s (Some c) = number_named c.node.after (λ name. numbered 0 name (components s))

-- a scenario that can be run, what each of its leaves opens, and what each uses at most
pub record IsDrawn (s : Scenario) (opened : List (List (List ℕ × Option ℕ))) (most : List Budget) : Type 0 where
  pub ready : IsReady s
  pub opens : opened ≡ opened_by_all (components s) (components s)
  pub uses : most ≡ budgets s

-- the lines of services with their servers
abbrev pub opens_of : ℕ → System → List (List ℕ × Option ℕ) → List ℕ
opens_of depth system [] = []
opens_of depth system (o ∷ rest) = line depth (codes "opens " ++ o.0 ++ codes " of " ++ server_label system o.1) ++ opens_of depth system rest

-- the arrows for services with their servers, from the node at a place
abbrev pub arrows_of : List ℕ → ℕ → List (List ℕ × Option ℕ) → List ℕ
arrows_of places from [] = []
arrows_of places from (o ∷ rest) = arrow_to places from o.1 (in_quotes o.0) ++ arrows_of places from rest
