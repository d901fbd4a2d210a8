-- How the logic stores lists of statements and of start nodes, so that a model's value can hold programs, scenarios and worlds.
use Rattle.std.specs.Prelude.{◌≡◌, ℕ, refl}
use Rattle.std.proofs.Common.{ap}
use Rattle.std.specs.Coded.{Coded}
use base.Stored.{Gv, gnil, gnum, gcons}
use Rattle.gq_model.specs.machine.Program.{Instruction, Statements, Done, Do, If, Loop}
use Rattle.gq_model.specs.machine.Scenario.{LeafNode, InitNode, Nodes, End, Leaf_node, Init_node}

abbrev head : Gv → Gv
head gnil = gnil
head (gnum n) = gnil
head (gcons a b) = a

abbrev tail : Gv → Gv
tail gnil = gnil
tail (gnum n) = gnil
tail (gcons a b) = b

abbrev number : Gv → ℕ
number gnil = 0
number (gnum n) = n
number (gcons a b) = 0

module _ (instruction_code : Coded Instruction) where
  abbrev pub to : Statements → Gv
  to Done = gnil
  to (Do i rest) = gcons (gnum 0) (gcons (instruction_code.code i) (to rest))
  to (If arm other rest) = gcons (gnum 1) (gcons (to arm) (gcons (to other) (to rest)))
  to (Loop n body rest) = gcons (gnum 2) (gcons (gnum n) (gcons (to body) (to rest)))

  pub to_inj : (x y : Statements) → to x ≡ to y → x ≡ y
  to_inj Done Done e = refl
  to_inj (Do i rest) (Do j rest') e =
      let p = instruction_code.inj i j (ap (λ g. head (tail g)) e) in let q = to_inj rest rest' (ap (λ g. tail (tail g)) e) in λ k. Do (p k) (q k)
  to_inj (If a b r) (If a' b' r') e =
      let p = to_inj a a' (ap (λ g. head (tail g)) e) in let q = to_inj b b' (ap (λ g. head (tail (tail g))) e) in let s =
      to_inj r r' (ap (λ g. tail (tail (tail g))) e) in λ k. If (p k) (q k) (s k)
  to_inj (Loop n b r) (Loop n' b' r') e =
      let p : n ≡ n' = ap (λ g. number (head (tail g))) e in let q = to_inj b b' (ap (λ g. head (tail (tail g))) e) in let s =
      to_inj r r' (ap (λ g. tail (tail (tail g))) e) in λ k. Loop (p k) (q k) (s k)
  to_inj _ _ e = cc

  abbrev pub statements_code : Coded Statements
  statements_code = record { code = to; inj = to_inj }

module _ (leaf_code : Coded LeafNode) (init_code : Coded InitNode) where
  abbrev pub to_nodes : Nodes → Gv
  to_nodes End = gnil
  to_nodes (Leaf_node node rest) = gcons (gnum 0) (gcons (leaf_code.code node) (to_nodes rest))
  to_nodes (Init_node node children rest) = gcons (gnum 1) (gcons (init_code.code node) (gcons (to_nodes children) (to_nodes rest)))

  pub to_nodes_inj : (x y : Nodes) → to_nodes x ≡ to_nodes y → x ≡ y
  to_nodes_inj End End e = refl
  to_nodes_inj (Leaf_node node rest) (Leaf_node node' rest') e =
      let p = leaf_code.inj node node' (ap (λ g. head (tail g)) e) in let q = to_nodes_inj rest rest' (ap (λ g. tail (tail g)) e) in λ k. Leaf_node (p k) (q k)
  to_nodes_inj (Init_node node children rest) (Init_node node' children' rest') e =
      let p = init_code.inj node node' (ap (λ g. head (tail g)) e) in
      let q = to_nodes_inj children children' (ap (λ g. head (tail (tail g))) e) in
      let s = to_nodes_inj rest rest' (ap (λ g. tail (tail (tail g))) e) in λ k. Init_node (p k) (q k) (s k)
  to_nodes_inj _ _ e = cc

  abbrev pub nodes_code : Coded Nodes
  nodes_code = record { code = to_nodes; inj = to_nodes_inj }
