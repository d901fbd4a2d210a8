-- Services with their servers.
use Rattle.std.proofs.Common.{◌≡◌, ℕ, Bool, true, false, ◌||◌, cond, List, [], ◌∷◌, ◌++◌, length, map, get_or, Option, Some, None, option_map, refl, ap, sym}
use Rattle.std.proofs.Common.{◌∙◌}
use Rattle.std.specs.Prelude.{slice_get, is_some}
use Rattle.std.proofs.lemmas.List.{length-map}
use Rattle.gq_model.specs.machine.Lists.{any_of}
use Rattle.gq_model.specs.machine.Program.{text_eq}
use Rattle.gq_model.specs.machine.Scenario.{Scenario, System, Component, components, system}
use Rattle.gq_model.specs.machine.Routes.{server_of}
use Rattle.gq_model.specs.rules.Use.{services, used_at}
use Rattle.gq_model.specs.rules.Resolve.{Cycle, routes_fault, cycle_fault}
use Rattle.gq_resolve.specs.Reaching.{used_there, first_on_cycle}
use Rattle.gq_resolve.specs.Served.{once, entry, served, servers, server_among, leaf_routes, routes_of, server_in, server_reported, server_at, AreServers}
use Rattle.gq_resolve.proofs.Routed_service_providers.{has_server}
use Rattle.gq_resolve.proofs.Use_chain_flags.{AreUsed, led_to, used_by, no_cycle, cycle_found}
use Rattle.gq_resolve.proofs.Opened_service_lists.{any_once}
use Rattle.std.proofs.lemmas.Option.{slice_get-map}
use Rattle.gq_model.proofs.Small_facts.{text_is}

module _ (server : List ℕ → Option ℕ) where
  entry_in : (service s : List ℕ) (o : Option ℕ) (rest : List (List ℕ × ℕ)) → server s ≡ o → text_eq service s ≡ true → (there : Bool)
      → server_in service rest ≡ cond there (server service) None
      → server_in service (entry s o ++ rest) ≡ server service
  entry_in service s (Some n) rest e is there h = rw is (sym (ap server (text_is service s is) ∙ e))
  entry_in service s None rest e is true h = h
  entry_in service s None rest e is false h = h ∙ sym (ap server (text_is service s is) ∙ e)

  entry_else : (service s : List ℕ) (o : Option ℕ) (rest : List (List ℕ × ℕ)) → text_eq service s ≡ false
      → server_in service (entry s o ++ rest) ≡ server_in service rest
  entry_else service s (Some n) rest is = rw is refl
  entry_else service s None rest is = refl

  found_here : (service s : List ℕ) (l : List (List ℕ)) (here there : Bool) → text_eq service s ≡ here
      → server_in service (served server l) ≡ cond there (server service) None
      → server_in service (entry s (server s) ++ served server l) ≡ cond (here || there) (server service) None
  found_here service s l true there is h = entry_in service s (server s) (served server l) refl is there h
  found_here service s l false there is h = entry_else service s (server s) (served server l) is ∙ h

  found : (service : List ℕ) (l : List (List ℕ)) → server_in service (served server l) ≡ cond (any_of (text_eq service) l) (server service) None
  found service [] = refl
  found service (s ∷ l) = found_here service s l (text_eq service s) (any_of (text_eq service) l) refl (found service l)

  -- a service is found with its server, where it is one of them
  pub found_once : (service : List ℕ) (l : List (List ℕ)) → server_in service (served server (once l)) ≡ cond (any_of (text_eq service) l) (server service) None
  found_once service l = rw (← any_once (text_eq service) l) (found service (once l))

  number_here : (test : ℕ → Bool) (s : List ℕ) (o : Option ℕ) (l : List (List ℕ × ℕ)) (b : Bool) → any_of test (servers l) ≡ b
      → any_of test (servers (entry s o ++ l)) ≡ (led_to test o || b)
  number_here test s None l b h = h
  number_here test s (Some n) l b h = ap (λ t. test n || t) h

  numbers : (test : ℕ → Bool) (l : List (List ℕ)) → any_of test (servers (served server l)) ≡ any_of (λ s. led_to test (server s)) l
  numbers test [] = refl
  numbers test (s ∷ l) = number_here test s (server s) (served server l) _ (numbers test l)

  -- a test holds of one of their servers where it holds of the server of one of them
  pub numbers_once : (test : ℕ → Bool) (l : List (List ℕ)) → any_of test (servers (served server (once l))) ≡ any_of (λ s. led_to test (server s)) l
  numbers_once test l = numbers test (once l) ∙ any_once (λ s. led_to test (server s)) l

-- the x-th leaf's server of a service
reported_at : (s : Scenario) (x : ℕ) (c : Component) → slice_get (components s) x ≡ Some c → (service : List ℕ)
    → server_at x service (routes_of s) ≡ cond (any_of (text_eq service) (services c)) (server_of (system s) c service) None
reported_at s x c is service =
    ap (server_reported service) (slice_get-map (leaf_routes (components s)) (components s) x ∙ ap (option_map (leaf_routes (components s))) is)
    ∙ found_once (server_among (components s) c) service (services c)

opened_or_not : (b : Bool) (o : Option ℕ) → (b ≡ true → is_some o ≡ true) → is_some (cond b o None) ≡ b
opened_or_not true o h = h refl
opened_or_not false o h = refl

-- where no route is at fault, each leaf has a server of each service that it opens, and of no other
pub AreServers-routes_of : (s : Scenario) → routes_fault (components s) ≡ None → AreServers s (routes_of s)
AreServers-routes_of s none = record {
  reported = reported_at s;
  each = λ x c is service.
      ap is_some (reported_at s x c is service)
      ∙ opened_or_not (any_of (text_eq service) (services c)) (server_of (system s) c service) (has_server s none x c is service);
}

-- the servers of the x-th leaf's services
module _ (system : System) (routes : List (List (List ℕ × ℕ))) (is : routes ≡ map (leaf_routes system.components) system.components) where
  at : (x : ℕ) → slice_get (map servers routes) x ≡ option_map servers (option_map (leaf_routes system.components) (slice_get system.components x))
  at x = slice_get-map servers routes x ∙ ap (option_map servers) (ap (λ r. slice_get r x) is
      ∙ slice_get-map (leaf_routes system.components) system.components x)

  used_at-there : (test : ℕ → Bool) (o : Option Component)
      → any_of test (used_there (option_map servers (option_map (leaf_routes system.components) o))) ≡ any_of test (used_at system o)
  used_at-there test None = refl
  used_at-there test (Some c) = numbers_once (server_of system c) test (services c) ∙ sym (used_by test system c)

  pub AreUsed-servers : AreUsed system (map servers routes)
  AreUsed-servers x test = ap (λ o. any_of test (used_there o)) (at x) ∙ used_at-there test (slice_get system.components x)

  pub as_many : length (map servers routes) ≡ length system.components
  as_many = length-map routes servers ∙ (ap length is ∙ length-map system.components (leaf_routes system.components))

module _ (system : System) (components : List Component) (of : system.components ≡ components) (routes : List (List (List ℕ × ℕ)))
    (is : routes ≡ map (leaf_routes components) components)
    (used : List (List ℕ)) (alike : used ≡ map servers routes) where
  own : routes ≡ map (leaf_routes system.components) system.components
  own = rw of is

  long : length used ≡ length system.components
  long = ap length alike ∙ as_many system routes own

  all_used : AreUsed system used
  all_used = rw alike (AreUsed-servers system routes own)

  -- the leaf at the place that is found is the first that reaches itself
  pub reaches_itself : (x : ℕ) (c : Component) → first_on_cycle used ≡ Some x → c ≡ get_or components x c
      → cycle_fault system 0 components ≡ Some (Cycle c.node.name)
  reaches_itself x c first here = rw (← of) (cycle_found system used long all_used x c first (rw of here))

  -- no leaf does
  pub none_reaches : first_on_cycle used ≡ None → cycle_fault system 0 components ≡ None
  none_reaches first = rw (← of) (no_cycle system used long all_used first)
