-- Where a service leads, as code has it.
use Rattle.std.specs.Prelude.{ℕ, List, [], ◌∷◌, Option, Some, None, Result, Ok, Err}
use Rattle.std.specs.Borrow.{Bor}
use Rattle.gq_model.specs.machine.Scenario.{Target, Nodes}
use Rattle.gq_model.specs.machine.Routes.{Routed, To, No_route, Ambiguous, Provides_differs, led}
use Rattle.gq_resolve.specs.declared.routing.RouteFault.{RouteFault}
use Rattle.gq_resolve.specs.declared.routing.RouteFault.TheVariants as fault

abbrev pub routed_not : RouteFault → Routed
routed_not fault.NoRoute = No_route
routed_not fault.Ambiguous = Ambiguous
routed_not fault.ProvidesDiffers = Provides_differs

-- the leaf of a name, or why there is none
abbrev pub routed : Result (Bor (List ℕ)) RouteFault → Routed
routed (Ok name) = To name.now
routed (Err why) = routed_not why

-- where the first entry that fits leads, where one does
abbrev pub led_by : Option Target → List ℕ → Nodes → Routed → Routed
led_by None service siblings above = No_route
led_by (Some target) service siblings above = led target service siblings above

-- where what was found leads, as a list
abbrev pub led_found : Option (Result (Bor (List ℕ)) RouteFault) → List Routed
led_found None = []
led_found (Some led) = routed led ∷ []
