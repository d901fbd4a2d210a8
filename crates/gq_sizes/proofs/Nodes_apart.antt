-- Lists of nodes that are taken apart at their first, and how many nodes there are with the least quanta.
use Rattle.std.proofs.Common.{◌≡◌, ◌∙◌, ℕ, suc, ◌+◌, ◌-◌, ◌≤◌, List, [], ◌∷◌, length, get_or, drop, take, ap, sym, refl, arith}
use Rattle.std.proofs.Math.Seq.{take-length}
use Rattle.gq_model.specs.machine.Accounts.{leaf_count}
use Rattle.gq_model.specs.machine.Scenario.{Nodes, End, Leaf_node, Init_node, System}
use Rattle.gq_scenario.specs.Sizes.{node_count}
use Rattle.gq_scenario.specs.Component_trees.{before, nodes_of}
use Rattle.gq_scenario.specs.declared.scenario.Node.{Node}
use Rattle.gq_scenario.specs.declared.scenario.Node.TheVariants.{Leaf, Init}
use Rattle.gq_sizes.specs.Least.{least_nodes}

-- the nodes after the first
pub first_apart : (items : List Node) (node : Node) → 1 ≤ length items → node ≡ get_or items 0 node
    → nodes_of items ≡ before node (nodes_of (take (length items - 1) (drop 1 items)))
first_apart [] node h is = absurd (omega (arith, h))
first_apart (n ∷ rest) node h is =
    let e : length (n ∷ rest) - 1 ≡ length rest = omega arith in
    let all : take (length (n ∷ rest) - 1) rest ≡ rest = ap (λ k. take k rest) e ∙ take-length rest in
    (λ j. before (sym is j) (nodes_of (sym all j)))

module _ (node : Node) (rest : Nodes) where
  counts : node_count (before node rest) ≡ node_count (nodes_of (node ∷ [])) + node_count rest
  counts = by node
    where
      by : (n : Node) → node_count (before n rest) ≡ node_count (nodes_of (n ∷ [])) + node_count rest
      by (Leaf l) = omega arith
      by (Init i children) = omega arith

  leaves : leaf_count (before node rest) ≡ leaf_count (nodes_of (node ∷ [])) + leaf_count rest
  leaves = by node
    where
      by : (n : Node) → leaf_count (before n rest) ≡ leaf_count (nodes_of (n ∷ [])) + leaf_count rest
      by (Leaf l) = omega arith
      by (Init i children) = omega arith

some_node : (node : Node) → 1 ≤ node_count (nodes_of (node ∷ []))
some_node (Leaf l) = omega arith
some_node (Init i children) = omega arith

-- their numbers, and that there is a node
pub record AreApart (whole first rest : Nodes) : Type 0 where
  pub nodes : node_count whole ≡ node_count first + node_count rest
  pub leaves : leaf_count whole ≡ leaf_count first + leaf_count rest
  pub some : 1 ≤ node_count first

pub apart : (items : List Node) (node : Node) → 1 ≤ length items → node ≡ get_or items 0 node
    → AreApart (nodes_of items) (nodes_of (node ∷ [])) (nodes_of (take (length items - 1) (drop 1 items)))
apart items node h is =
    let rest = nodes_of (take (length items - 1) (drop 1 items)) in
    let all = first_apart items node h is in
    record { nodes = ap node_count all ∙ counts node rest; leaves = ap leaf_count all ∙ leaves node rest; some = some_node node }

-- AS MANY

-- how many nodes stand beside one another
abbrev beside : Nodes → ℕ
beside End = 0
beside (Leaf_node a rest) = suc (beside rest)
beside (Init_node a children rest) = suc (beside rest)

beside_all : (items : List Node) → beside (nodes_of items) ≡ length items
beside_all [] = refl
beside_all (Leaf a ∷ rest) = ap suc (beside_all rest)
beside_all (Init a children ∷ rest) = ap suc (beside_all rest)

module _ (v : ℕ) (all : System) where
  beside_least : (x : ℕ) (ns : Nodes) → beside (least_nodes v all x ns) ≡ beside ns
  beside_least x End = refl
  beside_least x (Leaf_node a rest) = ap suc (beside_least (suc x) rest)
  beside_least x (Init_node a children rest) = ap suc (beside_least (x + leaf_count children) rest)

  -- with the least quanta there are as many
  pub as_many_nodes : (x : ℕ) (made items : List Node) → nodes_of made ≡ least_nodes v all x (nodes_of items) → length made ≡ length items
  as_many_nodes x made items e = sym (beside_all made) ∙ (ap beside e ∙ (beside_least x (nodes_of items) ∙ beside_all items))
