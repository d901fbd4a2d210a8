-- Places of nodes in preorder.
use Rattle.std.proofs.Common.{◌≡◌, ℕ, suc, ◌+◌, ◌<◌, ◌≤◌, ◌||◌, Bool, true, false, List, length, get_or, drop, Some, refl, sym, ap, ◌∙◌, arith}
use Rattle.std.specs.Prelude.{nat_lt}
use Rattle.std.proofs.lemmas.Bool.{or_parts}
use Rattle.std.proofs.lemmas.Bool.Decides.{nat_tests}
use Rattle.gq_model.specs.machine.Accounts.{leaf_count}
use Rattle.gq_model.specs.machine.Scenario.{InitNode, Nodes, End, Leaf_node, Init_node, Scenario}
use Rattle.gq_scenario.specs.Document.{init_count, has_long_routes, has_too_many, is_long}
use Rattle.gq_scenario.specs.Sizes.{node_count, counted}
use Rattle.gq_scenario.specs.Component_trees.{before, nodes_of}
use Rattle.gq_scenario.specs.declared.scenario.Node.{Node}
use Rattle.gq_scenario.specs.declared.scenario.Node.TheVariants.{Leaf, Init}
use Rattle.gq_scenario.proofs.Tree_counts.{nodes_drop}

-- an init, what is below it and what follows it
pub count_here : (items : List Node) (i : ℕ) (node : Node) (init : InitNode) (children : Nodes) → i < length items → node ≡ get_or items i node
    → node ≡ Init init children
    → node_count (nodes_of (drop i items)) ≡ 1 + node_count children + node_count (nodes_of (drop (i + 1) items))
count_here items i node init children h e is = ap node_count (nodes_drop items i node h e ∙ ap (λ n. before n (nodes_of (drop (i + 1) items))) is)

-- a node is a leaf or an init
pub leaves_and_inits : (nodes : Nodes) → node_count nodes ≡ leaf_count nodes + init_count nodes
leaves_and_inits End = refl
leaves_and_inits (Leaf_node node rest) = let h = leaves_and_inits rest in omega (arith, h)
leaves_and_inits (Init_node node children rest) =
    let h = leaves_and_inits children in
    let k = leaves_and_inits rest in omega (arith, h, k)

-- where they are not too many
pub few_nodes : (s : Scenario) → has_too_many s ≡ false → (leaf_count s.nodes ≤ 64) × (init_count s.nodes ≤ 64)
few_nodes s h =
    let leaves = nat_lt 64 (leaf_count s.nodes) in
    let inits = nat_lt 64 (init_count s.nodes) in
    let interfaces = nat_lt 64 (length s.interfaces) in
    let a = or_parts (leaves || inits || interfaces || is_long s.default_routes) (has_long_routes s.nodes) h in
    let b = or_parts (leaves || inits || interfaces) (is_long s.default_routes) a.0 in
    let c = or_parts (leaves || inits) interfaces b.0 in
    let d = or_parts leaves inits c.0 in
    (few (leaf_count s.nodes) d.0, few (init_count s.nodes) d.1)
  where
    few : (n : ℕ) → nat_lt 64 n ≡ false → n ≤ 64
    few n e = grind (arith, nat_tests, e)
