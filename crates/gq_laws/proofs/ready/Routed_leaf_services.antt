-- Services that are routed to a leaf.
use Rattle.std.proofs.Common.{◌≡◌, ℕ, true, false, List, Option, Some, None, ap, ◌∙◌, arith}
use Rattle.std.specs.Prelude.{slice_get}
use Rattle.gq_model.specs.machine.Routes.{Routed, To, No_route, Ambiguous, Provides_differs, is_service, route, leaf_routed, server_of}
use Rattle.gq_model.specs.machine.Scenario.{Interface, Scenario, Component, components, interface_in, system}
use Rattle.gq_model.proofs.Small_facts.{none_some, text_is}
use Rattle.gq_laws.proofs.quota_payment.Routed_server_provides.{numbered_name, server_provides}
use Rattle.gq_laws.specs.Ready.{IsReady}

pub found : (s : Scenario) (y : ℕ) (c : Component) (service : List ℕ) → server_of (system s) c service ≡ Some y
    → (d : Component) × (slice_get (components s) y ≡ Some d)
found s y c service e = by (route c.levels service) e
  where
    by : (r : Routed) → leaf_routed r (components s) ≡ Some y → (d : Component) × (slice_get (components s) y ≡ Some d)
    by (To name) f = let u = numbered_name 0 name (components s) y f in let place = u.2 in (u.1, ap (slice_get (components s)) (omega (arith, place)) ∙ u.3)
    by No_route f = absurd (none_some f)
    by Ambiguous f = absurd (none_some f)
    by Provides_differs f = absurd (none_some f)

is_it : (provides : Option (List ℕ)) (service : List ℕ) → is_service provides service ≡ true → provides ≡ Some service
is_it None service e = absurd (no e)
  where
    no : false ≡ true → ⊥
    no e = cc
is_it (Some own) service e = ap (λ (n : List ℕ). Some n) (text_is own service e)

pub provided : (s : Scenario) (x y : ℕ) (c d : Component) (service : List ℕ) → IsReady s → slice_get (components s) x ≡ Some c
    → server_of (system s) c service ≡ Some y → slice_get (components s) y ≡ Some d → d.node.provides ≡ Some service
provided s x y c d service ready there routed at =
    is_it d.node.provides service (server_provides s ready.resolved.differ x y c d service there routed at)

pub declared : (s : Scenario) (x y : ℕ) (c : Component) (service : List ℕ) → IsReady s → slice_get (components s) x ≡ Some c
    → server_of (system s) c service ≡ Some y → (i : Interface) × (interface_in service s.interfaces ≡ Some i)
declared s x y c service ready there routed =
    let d = found s y c service routed in ready.read.declared y d.0 service d.1 (provided s x y c d.0 service ready there routed d.1)
