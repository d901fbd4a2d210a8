-- How many components and budgets there are, and who serves them.
use Rattle.std.proofs.Common.{◌≡◌, ℕ, suc, ◌+◌, ◌<◌, Bool, true, false, cond, List, [], ◌∷◌, length, Option, Some, None, refl, ap, arith}
use Rattle.std.proofs.Common.{length-append}
use Rattle.gq_model.specs.machine.Program.{text_eq}
use Rattle.gq_model.specs.machine.Scenario.{Route, Nodes, End, Leaf_node, Init_node, Level, level, below, System, Component, components_of}
use Rattle.gq_model.specs.machine.Accounts.{leaf_count}
use Rattle.gq_model.specs.machine.Routes.{Routed, To, No_route, Ambiguous, Provides_differs, route, numbered, leaf_routed, server_of}
use Rattle.gq_model.specs.rules.Accept.{budgets_from}
use Rattle.gq_model.specs.rules.Resolve.{unrouted}
use Rattle.gq_model.proofs.Small_facts.{some_same, none_some, some_none}

-- as many components as leaves
pub components_count : (label : List ℕ) (default_routes : Option (List Route)) (siblings : Nodes) (above : List Level) (nodes : Nodes)
    → length (components_of label default_routes siblings above nodes) ≡ leaf_count nodes
components_count label default_routes siblings above End = refl
components_count label default_routes siblings above (Leaf_node node rest) = ap suc (components_count label default_routes siblings above rest)
components_count label default_routes siblings above (Init_node node children rest) =
    let inner = components_of (below label node.name) node.default_routes children (level node.routes default_routes siblings ∷ above) children in
    let outer = components_of label default_routes siblings above rest in
    let a = length-append inner outer in
    let b = components_count (below label node.name) node.default_routes children (level node.routes default_routes siblings ∷ above) children in
    let c = components_count label default_routes siblings above rest in
    omega (arith, a, b, c)

-- as many budgets as components
pub budgets_count : (version : ℕ) (system : System) (x : ℕ) (cs : List Component) → length (budgets_from version system x cs) ≡ length cs
budgets_count version system x [] = refl
budgets_count version system x (c ∷ rest) = ap suc (budgets_count version system (suc x) rest)

-- the number of a component that is found is below the end of the list
pub numbered_below : (k y : ℕ) (name : List ℕ) (cs : List Component) → numbered k name cs ≡ Some y → y < k + length cs
numbered_below k y name [] e = absurd (none_some e)
numbered_below k y name (c ∷ rest) e = by_test (text_eq name c.node.name) e (λ h. numbered_below (suc k) y name rest h)
  where
    by_test : (b : Bool) → cond b (Some k) (numbered (suc k) name rest) ≡ Some y → (numbered (suc k) name rest ≡ Some y → y < suc k + length rest)
        → y < k + suc (length rest)
    by_test true e further = let here = some_same e in omega (arith, here)
    by_test false e further = let below = further e in omega (arith, below)

-- a server is one of the leaves
pub server_below : (system : System) (c : Component) (service : List ℕ) (y : ℕ) → server_of system c service ≡ Some y → y < length system.components
server_below system c service y e = by_route (route c.levels service) e
  where
    by_route : (r : Routed) → leaf_routed r system.components ≡ Some y → y < length system.components
    by_route (To name) e = let below = numbered_below 0 y name system.components e in omega (arith, below)
    by_route No_route e = absurd (none_some e)
    by_route Ambiguous e = absurd (none_some e)
    by_route Provides_differs e = absurd (none_some e)

-- where no fault is found, the route leads to a name
pub leads_to : (c : Component) (service : List ℕ) (r : Routed) → unrouted c service r ≡ None → (name : List ℕ) × (r ≡ To name)
leads_to c service (To name) e = (name, refl)
leads_to c service No_route e = absurd (some_none e)
leads_to c service Ambiguous e = absurd (some_none e)
leads_to c service Provides_differs e = absurd (some_none e)
