-- Scenarios without their quantities are scenarios.
use Rattle.std.proofs.Common.{◌≡◌, ℕ, ◌≤◌, List, [], ◌∷◌, length, take, refl, ap, sym, subst, ◌∙◌}
use Rattle.std.specs.Prelude.{map, Option, option_map, Vec}
use Rattle.std.specs.declared.alloc.Global.{Global}
use Rattle.std.proofs.lemmas.List.{length-map, take_all}
use Rattle.gq_model.specs.machine.Accounts.{leaf_count}
use Rattle.gq_model.specs.machine.Amounts.{Amount, amount}
use Rattle.gq_model.specs.machine.Scenario.{Interfaces, Route, Nodes, End, Leaf_node, Init_node, Scenario}
use Rattle.gq_program.specs.Interfaces.{all_unbounded, unbounded_entry}
use Rattle.gq_scenario.specs.Document.{has_long_routes, has_too_many, init_count, names_of}
use Rattle.gq_scenario.specs.Scenario_parts.{IsScenario, scenario_made}
use Rattle.gq_scenario.specs.Sizes.{depth, few_signals}
use Rattle.gq_scenario.specs.Component_trees.{before, nodes_of, version_number}
use Rattle.gq_scenario.specs.Without_quantities.{unsized, without_quanta}
use Rattle.gq_scenario.specs.declared.scenario.Version.{Version}
use Rattle.gq_scenario.specs.declared.scenario.Node.{Node}
use Rattle.gq_scenario.specs.declared.scenario.Node.TheVariants.{Leaf, Init}

-- a node that is handed nothing
abbrev pub without_quantum : Node → Node
without_quantum (Leaf node) = Leaf (record node { quantum = amount 0 0 })
without_quantum (Init node children) = Init (record node { quantum = amount 0 0 }) (without_quanta children)

pub nodes_emptied : (nodes : List Node) → nodes_of (map without_quantum nodes) ≡ without_quanta (nodes_of nodes)
nodes_emptied [] = refl
nodes_emptied (Leaf node ∷ rest) = ap (before (without_quantum (Leaf node))) (nodes_emptied rest)
nodes_emptied (Init node children ∷ rest) = ap (before (without_quantum (Init node children))) (nodes_emptied rest)

-- all that were gone over
pub all_emptied : (given kept : List Node) (i : ℕ) → kept ≡ map without_quantum (take i given) → length given ≤ i
    → nodes_of kept ≡ without_quanta (nodes_of given)
all_emptied given kept i e all = ap nodes_of (e ∙ ap (map without_quantum) (take_all i given all)) ∙ nodes_emptied given

leaves_same : (nodes : Nodes) → leaf_count (without_quanta nodes) ≡ leaf_count nodes
leaves_same End = refl
leaves_same (Leaf_node node rest) = simp (leaves_same rest)
leaves_same (Init_node node children rest) = simp (leaves_same children, leaves_same rest)

inits_same : (nodes : Nodes) → init_count (without_quanta nodes) ≡ init_count nodes
inits_same End = refl
inits_same (Leaf_node node rest) = inits_same rest
inits_same (Init_node node children rest) = simp (inits_same children, inits_same rest)

routes_same : (nodes : Nodes) → has_long_routes (without_quanta nodes) ≡ has_long_routes nodes
routes_same End = refl
routes_same (Leaf_node node rest) = simp (routes_same rest)
routes_same (Init_node node children rest) = simp (routes_same children, routes_same rest)

names_same : (nodes : Nodes) → names_of (without_quanta nodes) ≡ names_of nodes
names_same End = refl
names_same (Leaf_node node rest) = simp (names_same rest)
names_same (Init_node node children rest) = simp (names_same children, names_same rest)

depth_same : (nodes : Nodes) → depth (without_quanta nodes) ≡ depth nodes
depth_same End = refl
depth_same (Leaf_node node rest) = simp (depth_same rest)
depth_same (Init_node node children rest) = simp (depth_same children, depth_same rest)

signals_same : (nodes : Nodes) → few_signals (without_quanta nodes) ≡ few_signals nodes
signals_same End = refl
signals_same (Leaf_node node rest) = simp (signals_same rest)
signals_same (Init_node node children rest) = simp (signals_same children, signals_same rest)

few_same : (s : Scenario) → has_too_many (unsized s) ≡ has_too_many s
few_same s = simp (leaves_same s.nodes, inits_same s.nodes, routes_same s.nodes, length-map s.interfaces unbounded_entry)

-- there are as many of each, with the same names
pub unsized_scenario : (s : Scenario) → IsScenario s → IsScenario (unsized s)
unsized_scenario s is =
    record {
      few = few_same s ∙ is.few;
      single = rw (names_same s.nodes) is.single;
      memory = is.memory;
      caps = is.caps;
      shallow = rw (depth_same s.nodes) is.shallow;
      signals = rw (signals_same s.nodes) is.signals;
    }

-- a scenario of these parts is one without quantities
pub made_unsized : (s : Scenario) (version : Version) (total : Amount) (routes : Option (Vec Route Global)) (interfaces : Interfaces) (nodes : Nodes)
    → version_number version ≡ s.version → total ≡ s.total → option_map (λ r. r.items) routes ≡ s.default_routes
    → interfaces ≡ all_unbounded s.interfaces → nodes ≡ without_quanta s.nodes
    → scenario_made version total routes interfaces nodes ≡ unsized s
made_unsized s version total routes interfaces nodes v t r i n = simp (v, t, r, i, n)

pub unsized_made : (s made : Scenario) → made ≡ unsized s → IsScenario s → IsScenario made
unsized_made s made e is = subst IsScenario (sym e) (unsized_scenario s is)
