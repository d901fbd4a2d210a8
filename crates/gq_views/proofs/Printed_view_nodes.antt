-- The lines of nodes as a text that grows at its end.
use Rattle.std.proofs.Common.{◌≡◌, ◌∙◌, ℕ, suc, ◌+◌, ◌<◌, List, ◌++◌, length, get_or, drop, ap, sym, refl, arith, append_assoc, add-one}
use Rattle.std.specs.Prelude.{slice_get}
use Rattle.gq_model.specs.machine.Accounts.{leaf_count}
use Rattle.gq_model.specs.machine.Amounts.{Amount}
use Rattle.gq_model.specs.machine.Scenario.{LeafNode, InitNode, Nodes, System}
use Rattle.gq_model.specs.rules.Accept.{Budget}
use Rattle.gq_scenario.specs.Component_trees.{nodes_of}
use Rattle.gq_scenario.specs.declared.scenario.Node.{Node}
use Rattle.gq_scenario.specs.declared.scenario.Node.TheVariants.{Leaf, Init}
use Rattle.gq_scenario.proofs.Tree_counts.{nodes_drop}
use Rattle.gq_views.specs.Listing.{line}
use Rattle.gq_views.specs.Tree.{init_lines, init_text, leaf_opens, leaf_text, nodes_text}

-- the same init, reported by what the code has of it
pub same_init : (d : ℕ) (t : List ℕ) (children : Nodes) (v w : ℕ) (name label : List ℕ) (quantum amount : Amount) → v ≡ w → name ≡ label → quantum ≡ amount
    → t ++ line d (init_text v name quantum children) ≡ t ++ line d (init_text w label amount children)
same_init d t children v w name label quantum amount e f g = λ i. t ++ line d (init_text (e i) (f i) (g i) children)

module _ (v : ℕ) (system : System) (most : List Budget) (d : ℕ) (items : List Node) (i : ℕ) (node : Node) (within : i < length items)
    (is : node ≡ get_or items i node) where
  abbrev rest : Nodes
  rest = nodes_of (drop (i + 1) items)

  -- a leaf's lines are put at the end
  pub printed_leaf : (leaf : LeafNode) → node ≡ Leaf leaf → (x y : ℕ) → y ≡ x + 1 → (t u whole : List ℕ)
      → u ≡ (t ++ line d (leaf_text v leaf (slice_get most x))) ++ leaf_opens (d + 1) system (slice_get system.components x)
      → t ++ nodes_text v system most d x (nodes_of (drop i items)) ≡ whole
      → u ++ nodes_text v system most d y rest ≡ whole
  printed_leaf leaf e x y next t u whole put inv =
      let first = line d (leaf_text v leaf (slice_get most x)) in
      let opens = λ (k : ℕ). leaf_opens k system (slice_get system.components x) in
      let here : nodes_text v system most d x (nodes_of (drop i items)) ≡ (first ++ opens (suc d)) ++ nodes_text v system most d (suc x) rest =
      rw (nodes_drop items i node within is, e) refl in
      let number : y ≡ suc x = omega (arith, next) in
      rw (put, number, add-one d) (append_assoc (t ++ first) (opens (suc d)) (nodes_text v system most d (suc x) rest)
      ∙ (append_assoc t first (opens (suc d) ++ nodes_text v system most d (suc x) rest)
      ∙ (ap (λ l. t ++ l) (sym (append_assoc first (opens (suc d)) (nodes_text v system most d (suc x) rest)) ∙ sym here) ∙ inv)))

  -- an init's lines and those of its children are put at the end
  pub printed_init : (init : InitNode) (children : Nodes) → node ≡ Init init children → (x y : ℕ) → y ≡ x + leaf_count children → (t u w whole : List ℕ)
      → u ≡ t ++ init_lines v d init children → w ≡ u ++ nodes_text v system most (d + 1) x children
      → t ++ nodes_text v system most d x (nodes_of (drop i items)) ≡ whole
      → w ++ nodes_text v system most d y rest ≡ whole
  printed_init init children e x y next t u w whole put below inv =
      let first = init_lines v d init children in
      let inner = nodes_text v system most (suc d) x children in
      let after = nodes_text v system most d (x + leaf_count children) rest in
      let here : nodes_text v system most d x (nodes_of (drop i items)) ≡ (first ++ inner) ++ after = rw (nodes_drop items i node within is, e) refl in
      rw (below, put, next, add-one d) (append_assoc (t ++ first) inner after
      ∙ (append_assoc t first (inner ++ after) ∙ (ap (λ l. t ++ l) (sym (append_assoc first inner after) ∙ sym here) ∙ inv)))
