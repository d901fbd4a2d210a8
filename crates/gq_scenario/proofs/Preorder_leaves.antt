-- The leaves of a tree in preorder.
use Rattle.std.proofs.Common.{◌≡◌, ℕ, zero, suc, ◌+◌, ◌<◌, List, [], ◌∷◌, ◌++◌, length, map, get_or, drop, Option, Some, option_map, length-append, codes, refl}
use Rattle.std.proofs.Common.{sym, ap, ◌∙◌, arith, true, nat_le, ◌≤◌}
use Rattle.std.specs.Prelude.{slice_get}
use Rattle.std.proofs.lemmas.Bool.{and_parts, and_from, leb-true}
use Rattle.std.proofs.lemmas.List.{length-map}
use Rattle.gq_model.specs.machine.Accounts.{leaf_count}
use Rattle.gq_model.specs.machine.Lists.{all_of}
use Rattle.gq_model.specs.machine.Scenario.{Route, LeafNode, InitNode, Nodes, End, Leaf_node, Init_node, Scenario, Component, Level, level, below}
use Rattle.gq_model.specs.machine.Scenario.{components_of, components}
use Rattle.gq_scenario.specs.Sizes.{leaves_in, few_signals}
use Rattle.gq_scenario.specs.Component_trees.{nodes_of}
use Rattle.gq_scenario.specs.declared.scenario.Node.{Node}
use Rattle.gq_scenario.specs.declared.scenario.Node.TheVariants.{Leaf, Init}
use Rattle.gq_model.proofs.Decoded_operands.{all_of-append}
use Rattle.gq_scenario.proofs.Tree_counts.{nodes_drop}
use Rattle.std.proofs.lemmas.Option.{slice_get-map}

pub leaf_count-leaves : (nodes : Nodes) → length (leaves_in nodes) ≡ leaf_count nodes
leaf_count-leaves End = refl
leaf_count-leaves (Leaf_node node rest) = ap suc (leaf_count-leaves rest)
leaf_count-leaves (Init_node node children rest) =
    length-append (leaves_in children) (leaves_in rest) ∙ (λ i. leaf_count-leaves children i + leaf_count-leaves rest i)

map-append : {A B : Type 0} (f : A → B) (xs ys : List A) → map f (xs ++ ys) ≡ map f xs ++ map f ys
map-append f [] ys = refl
map-append f (x ∷ xs) ys = ap (λ t. f x ∷ t) (map-append f xs ys)

leaves_of_components : (label : List ℕ) (default_routes : Option (List Route)) (siblings : Nodes) (above : List Level) (nodes : Nodes)
    → map (λ c. c.node) (components_of label default_routes siblings above nodes) ≡ leaves_in nodes
leaves_of_components label default_routes siblings above End = refl
leaves_of_components label default_routes siblings above (Leaf_node node rest) =
    ap (λ t. node ∷ t) (leaves_of_components label default_routes siblings above rest)
leaves_of_components label default_routes siblings above (Init_node node children rest) =
    let inner = leaves_of_components (below label node.name) node.default_routes children (level node.routes default_routes siblings ∷ above) children in
    let later = leaves_of_components label default_routes siblings above rest in
    map-append (λ c. c.node) (components_of (below label node.name) node.default_routes children (level node.routes default_routes siblings ∷ above) children)
    (components_of label default_routes siblings above rest)
    ∙ (λ i. inner i ++ later i)

pub components-leaves_in : (s : Scenario) → map (λ c. c.node) (components s) ≡ leaves_in s.nodes
components-leaves_in s = leaves_of_components (codes "init") s.default_routes s.nodes [] s.nodes

pub components-count : (s : Scenario) → leaf_count s.nodes ≡ length (components s)
components-count s = sym (leaf_count-leaves s.nodes) ∙ (ap length (sym (components-leaves_in s)) ∙ length-map (components s) (λ c. c.node))

pub component_leaf : (s : Scenario) (i : ℕ) (node : LeafNode) → slice_get (leaves_in s.nodes) i ≡ Some node
    → option_map (λ c. c.node) (slice_get (components s) i) ≡ Some node
component_leaf s i node e = sym (slice_get-map (λ c. c.node) (components s) i) ∙ (ap (λ l. slice_get l i) (components-leaves_in s) ∙ e)

-- SIGNALS

leaf_signals : (nodes : Nodes) → few_signals nodes ≡ true → all_of (λ node. nat_le node.signals 3) (leaves_in nodes) ≡ true
leaf_signals End e = refl
leaf_signals (Leaf_node node rest) e =
    let p = and_parts (nat_le node.signals 3) (few_signals rest) e in and_from (nat_le node.signals 3) _ p.0 (leaf_signals rest p.1)
leaf_signals (Init_node node children rest) e =
    let p = and_parts (few_signals children) (few_signals rest) e in
    all_of-append (λ node. nat_le node.signals 3) (leaves_in children) (leaves_in rest) (leaf_signals children p.0) (leaf_signals rest p.1)

few_at : (nodes : List LeafNode) (x : ℕ) (node : LeafNode) → all_of (λ node. nat_le node.signals 3) nodes ≡ true → slice_get nodes x ≡ Some node
    → node.signals ≤ 3
few_at [] x node all e = absurd cc
few_at (n ∷ nodes) zero node all e =
    let same : n ≡ node = cc in rw (← same) (leb-true n.signals 3 (and_parts (nat_le n.signals 3) _ all).0)
few_at (n ∷ nodes) (suc x) node all e = few_at nodes x node (and_parts (nat_le n.signals 3) _ all).1 e

-- no leaf has more than 3 signals
pub component_signals : (s : Scenario) → few_signals s.nodes ≡ true → (x : ℕ) (c : Component) → slice_get (components s) x ≡ Some c → c.node.signals ≤ 3
component_signals s few x c e =
    few_at (leaves_in s.nodes) x c.node (leaf_signals s.nodes few)
    (ap (λ l. slice_get l x) (sym (components-leaves_in s)) ∙ (slice_get-map (λ c. c.node) (components s) x ∙ ap (option_map (λ c. c.node)) e))

-- PLACES

-- places past a prefix of a list
past_prefix : (xs ys : List LeafNode) (i left : ℕ) → left + length xs ≡ i → slice_get (xs ++ ys) i ≡ slice_get ys left
past_prefix [] ys i left e = let same : left ≡ i = omega arith in rw same refl
past_prefix (x ∷ xs) ys zero left e = absurd (omega arith)
past_prefix (x ∷ xs) ys (suc i) left e = past_prefix xs ys i left (omega arith)

within_prefix : (xs ys : List LeafNode) (i : ℕ) (x : LeafNode) → slice_get xs i ≡ Some x → slice_get (xs ++ ys) i ≡ Some x
within_prefix [] ys i x e = absurd cc
within_prefix (a ∷ xs) ys zero x e = e
within_prefix (a ∷ xs) ys (suc i) x e = within_prefix xs ys i x e

module _ (items : List Node) (i : ℕ) (node : Node) (within : i < length items) (is : node ≡ get_or items i node) where
  pub first_leaf : (leaf : LeafNode) → node ≡ Leaf leaf → slice_get (leaves_in (nodes_of (drop i items))) 0 ≡ Some leaf
  first_leaf leaf e = rw (nodes_drop items i node within is, e) refl

  pub next_leaf : (leaf : LeafNode) (left : ℕ) → node ≡ Leaf leaf
      → slice_get (leaves_in (nodes_of (drop i items))) (left + 1) ≡ slice_get (leaves_in (nodes_of (drop (i + 1) items))) left
  next_leaf leaf left e = let n : left + 1 ≡ suc left = omega arith in rw (nodes_drop items i node within is, e, n) refl

  pub leaf_below : (init : InitNode) (children : Nodes) (left : ℕ) (leaf : LeafNode) → node ≡ Init init children
      → slice_get (leaves_in children) left ≡ Some leaf
      → slice_get (leaves_in (nodes_of (drop i items))) left ≡ Some leaf
  leaf_below init children left leaf e found = rw (nodes_drop items i node within is, e)
      (within_prefix (leaves_in children) (leaves_in (nodes_of (drop (i + 1) items))) left leaf found)

  pub leaf_after : (init : InitNode) (children : Nodes) (place left : ℕ) → node ≡ Init init children → left + leaf_count children ≡ place
      → slice_get (leaves_in (nodes_of (drop i items))) place ≡ slice_get (leaves_in (nodes_of (drop (i + 1) items))) left
  leaf_after init children place left e past =
      rw (nodes_drop items i node within is, e) (past_prefix (leaves_in children) (leaves_in (nodes_of (drop (i + 1) items))) place left
      (omega (arith, past, leaf_count-leaves children)))

  pub count_leaf : (leaf : LeafNode) → node ≡ Leaf leaf → leaf_count (nodes_of (drop i items)) ≡ leaf_count (nodes_of (drop (i + 1) items)) + 1
  count_leaf leaf e = let n : suc (leaf_count (nodes_of (drop (i + 1) items))) ≡ leaf_count (nodes_of (drop (i + 1) items)) + 1 = omega arith in
      rw (nodes_drop items i node within is, e) n

  pub count_init : (init : InitNode) (children : Nodes) → node ≡ Init init children
      → leaf_count (nodes_of (drop i items)) ≡ leaf_count children + leaf_count (nodes_of (drop (i + 1) items))
  count_init init children e = rw (nodes_drop items i node within is, e) refl
