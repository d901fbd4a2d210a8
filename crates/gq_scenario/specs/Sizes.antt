-- How large trees of components are.
use Rattle.std.specs.Prelude.{◌≡◌, ℕ, suc, ◌+◌, ◌≤◌, ◌%◌, max, nat_le, if◌then◌else◌, Bool, true, ◌&&◌, List, [], ◌∷◌, ◌++◌, Option, Some, None}
use Rattle.gq_model.specs.machine.Scenario.{LeafNode, Nodes, End, Leaf_node, Init_node}

-- the nodes, with those below
abbrev pub node_count : Nodes → ℕ
node_count End = 0
node_count (Leaf_node node rest) = 1 + node_count rest
node_count (Init_node node children rest) = 1 + node_count children + node_count rest

-- how deep these nodes and those below them stand, the first of them at depth 1
abbrev pub depth : Nodes → ℕ
depth End = 0
depth (Leaf_node node rest) = max 1 (depth rest)
depth (Init_node node children rest) = max (suc (depth children)) (depth rest)

-- the leaves of these nodes in preorder
abbrev pub leaves_in : Nodes → List LeafNode
leaves_in End = []
leaves_in (Leaf_node node rest) = node ∷ leaves_in rest
leaves_in (Init_node node children rest) = leaves_in children ++ leaves_in rest

-- no leaf has more than 3 signals
abbrev pub few_signals : Nodes → Bool
few_signals End = true
few_signals (Leaf_node node rest) = nat_le node.signals 3 && few_signals rest
few_signals (Init_node node children rest) = few_signals children && few_signals rest

-- a number up to the greatest count
abbrev pub counted : ℕ → Option ℕ
counted n = if nat_le n 64 then Some n else None

-- what a component can be given: at most 2 to the 40 bytes, and 65536 capabilities
pub record IsQuantum (ram caps : ℕ) : Type 0 where
  pub bytes : ram ≤ 1099511627776
  pub few : caps ≤ 65536

-- what a whole system can have: whole pages, one at least, and at most 64 MiB
pub record IsMemory (ram : ℕ) : Type 0 where
  pub least : 4096 ≤ ram
  pub most : ram ≤ 67108864
  pub whole : ram % 4096 ≡ 0

-- the places in preorder of the leaves among these nodes, of which the first node has the place n
abbrev pub leaf_places : ℕ → Nodes → List ℕ
leaf_places n End = []
leaf_places n (Leaf_node node rest) = n ∷ leaf_places (n + 1) rest
leaf_places n (Init_node node children rest) = leaf_places (n + 1) children ++ leaf_places (n + (1 + node_count children)) rest
