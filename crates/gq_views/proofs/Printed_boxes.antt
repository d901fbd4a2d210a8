-- The lines of a graph as a text that grows at its end.
use Rattle.std.proofs.Common.{◌≡◌, ◌∙◌, ℕ, suc, ◌+◌, ◌<◌, List, [], ◌∷◌, ◌++◌, length, get_or, drop, Option, Some, None, ap, sym, refl, arith, append_assoc}
use Rattle.std.proofs.Common.{append-nil}
use Rattle.std.proofs.Common.{add-one, codes, drop-cons}
use Rattle.std.specs.Prelude.{decimal, slice_get, slice_index}
use Rattle.std.proofs.lemmas.Option.{slice_get-get_or}
use Rattle.gq_model.specs.machine.Accounts.{leaf_count}
use Rattle.gq_model.specs.machine.Amounts.{Amount}
use Rattle.gq_model.specs.machine.Routes.{numbered, server_of}
use Rattle.gq_model.specs.machine.Scenario.{LeafNode, InitNode, Nodes, Component, Scenario, components, system}
use Rattle.gq_model.specs.rules.Accept.{Budget}
use Rattle.gq_model.specs.rules.Use.{services}
use Rattle.gq_resolve.specs.NodeTables.{number_named}
use Rattle.gq_scenario.specs.Sizes.{node_count}
use Rattle.gq_scenario.specs.Component_trees.{nodes_of}
use Rattle.gq_scenario.specs.declared.scenario.Node.{Node}
use Rattle.gq_scenario.specs.declared.scenario.Node.TheVariants.{Leaf, Init}
use Rattle.gq_scenario.proofs.Tree_counts.{nodes_drop}
use Rattle.gq_views.specs.Listing.{indent, line}
use Rattle.gq_views.specs.Tree.{all_afters, all_services, after_arrow, arrow, arrow_from, arrow_to, cluster, first_of_each, in_quotes, init_label}
use Rattle.gq_views.specs.Tree.{leaf_label, node_boxes, node_name, point_line, service_arrows}
use Rattle.gq_views.specs.internal.Opened_services.{arrows_of, opened_among, opened_of}

-- LINES

-- a line of three pieces
pub line_of_three : (d : ℕ) (a b c t u v w x y : List ℕ) → u ≡ t ++ indent d → v ≡ u ++ a → w ≡ v ++ b → x ≡ w ++ c → y ≡ x ++ 10 ∷ []
    → y ≡ t ++ line d (a ++ b ++ c)
line_of_three d a b c t u v w x y p q r s f = rw (f, s, r, q, p) (simp append_assoc)

-- the pieces of an arrow
pub arrow_put : (from to : ℕ) (name t u₁ u₂ u₃ u₄ u₅ u₆ u₇ u₈ : List ℕ) → u₁ ≡ t ++ indent 1 → u₂ ≡ u₁ ++ node_name from → u₃ ≡ u₂ ++ codes " -> "
    → u₄ ≡ u₃ ++ node_name to → u₅ ≡ u₄ ++ codes " [label = \"" → u₆ ≡ u₅ ++ name → u₇ ≡ u₆ ++ codes "\"];" → u₈ ≡ u₇ ++ 10 ∷ []
    → u₈ ≡ t ++ arrow from to (in_quotes name)
arrow_put from to name t u₁ u₂ u₃ u₄ u₅ u₆ u₇ u₈ p₁ p₂ p₃ p₄ p₅ p₆ p₇ p₈ =
    pieces t (indent 1) (node_name from) (codes " -> ") (node_name to) (codes " [label = ") (codes "\"") name (codes "];") (10 ∷ []) u₁ u₂ u₃ u₄ u₅ u₆ u₇ u₈
    p₁ p₂ p₃ p₄ p₅ p₆ p₇ p₈
  where
    pieces : (t i n a m b q s c f u₁ u₂ u₃ u₄ u₅ u₆ u₇ u₈ : List ℕ) → u₁ ≡ t ++ i → u₂ ≡ u₁ ++ n → u₃ ≡ u₂ ++ a → u₄ ≡ u₃ ++ m → u₅ ≡ u₄ ++ (b ++ q)
        → u₆ ≡ u₅ ++ s → u₇ ≡ u₆ ++ (q ++ c) → u₈ ≡ u₇ ++ f → u₈ ≡ t ++ ((i ++ (n ++ a ++ m ++ b ++ (q ++ s ++ q) ++ c)) ++ f)
    pieces t i n a m b q s c f u₁ u₂ u₃ u₄ u₅ u₆ u₇ u₈ p₁ p₂ p₃ p₄ p₅ p₆ p₇ p₈ = rw (p₈, p₇, p₆, p₅, p₄, p₃, p₂, p₁) (simp append_assoc)

-- the pieces of the box of a leaf
pub box_of_leaf : (depth n : ℕ) (label t u₁ u₂ u₃ u₄ u₅ u₆ : List ℕ) → u₁ ≡ t ++ indent depth → u₂ ≡ u₁ ++ node_name n → u₃ ≡ u₂ ++ codes " [label = \""
    → u₄ ≡ u₃ ++ label → u₅ ≡ u₄ ++ codes "\"];" → u₆ ≡ u₅ ++ 10 ∷ []
    → u₆ ≡ t ++ line depth (node_name n ++ codes " [label = " ++ in_quotes label ++ codes "];")
box_of_leaf depth n label t u₁ u₂ u₃ u₄ u₅ u₆ p₁ p₂ p₃ p₄ p₅ p₆ =
    pieces t (indent depth) (node_name n) (codes " [label = ") (codes "\"") label (codes "];") (10 ∷ []) u₁ u₂ u₃ u₄ u₅ u₆ p₁ p₂ p₃ p₄ p₅ p₆
  where
    pieces : (t i n b q s c f u₁ u₂ u₃ u₄ u₅ u₆ : List ℕ) → u₁ ≡ t ++ i → u₂ ≡ u₁ ++ n → u₃ ≡ u₂ ++ (b ++ q) → u₄ ≡ u₃ ++ s → u₅ ≡ u₄ ++ (q ++ c)
        → u₆ ≡ u₅ ++ f → u₆ ≡ t ++ ((i ++ (n ++ b ++ (q ++ s ++ q) ++ c)) ++ f)
    pieces t i n b q s c f u₁ u₂ u₃ u₄ u₅ u₆ p₁ p₂ p₃ p₄ p₅ p₆ = rw (p₆, p₅, p₄, p₃, p₂, p₁) (simp append_assoc)

-- no point where there is a child
pub no_point : (d k : ℕ) (items : List Node) → 0 < length items → (t : List ℕ) → t ≡ t ++ point_line d k (nodes_of items)
no_point d k [] h t = absurd (omega (arith, h))
no_point d k (Leaf node ∷ items) h t = sym (append-nil t)
no_point d k (Init node children ∷ items) h t = sym (append-nil t)

-- BOXES

pub cluster_put : (d e k : ℕ) → e ≡ d + 1 → (label same point inside t u v w x y : List ℕ) → same ≡ label
    → u ≡ t ++ line d (codes "subgraph cluster_" ++ decimal k ++ codes " {") → v ≡ u ++ line e (codes "label = " ++ in_quotes same ++ codes ";")
    → w ≡ v ++ point → x ≡ w ++ inside → y ≡ x ++ line d (codes "}") → y ≡ t ++ cluster d k label point inside
cluster_put d e k deeper label same point inside t u v w x y g p q r s f =
    let next : e ≡ suc d = omega (arith, deeper) in
    five t (line d (codes "subgraph cluster_" ++ decimal k ++ codes " {")) (line (suc d) (codes "label = " ++ in_quotes label ++ codes ";")) point inside
    (line d (codes "}")) u v w x y p (q ∙ (λ i. u ++ line (next i) (codes "label = " ++ in_quotes (g i) ++ codes ";"))) r s f
  where
    five : (t a b c d e u v w x y : List ℕ) → u ≡ t ++ a → v ≡ u ++ b → w ≡ v ++ c → x ≡ w ++ d → y ≡ x ++ e → y ≡ t ++ (a ++ b ++ c ++ d ++ e)
    five t a b c d e u v w x y p q r s f = rw (f, s, r, q, p) (simp append_assoc)

pub same_label : (children : Nodes) (v w : ℕ) (name : List ℕ) (quantum : Amount) → v ≡ w
    → init_label v name quantum children ≡ init_label w name quantum children
same_label children v w name quantum e = ap (λ u. init_label u name quantum children) e

module _ (v : ℕ) (most : List Budget) (d : ℕ) (items : List Node) (i : ℕ) (node : Node) (within : i < length items) (is : node ≡ get_or items i node) where
  abbrev rest : Nodes
  rest = nodes_of (drop (i + 1) items)

  pub one_node : (leaf : LeafNode) → node ≡ Leaf leaf → node_count (nodes_of (drop i items)) ≡ 1 + node_count rest
  one_node leaf e = rw (nodes_drop items i node within is, e) refl

  -- a leaf's line is put at the end
  pub boxed_leaf : (leaf : LeafNode) → node ≡ Leaf leaf → (k x l y : ℕ) → l ≡ k + 1 → y ≡ x + 1 → (t u whole : List ℕ)
      → u ≡ t ++ line d (node_name k ++ codes " [label = " ++ in_quotes (leaf_label v leaf (slice_get most x)) ++ codes "];")
      → t ++ node_boxes v most d k x (nodes_of (drop i items)) ≡ whole
      → u ++ node_boxes v most d l y rest ≡ whole
  boxed_leaf leaf e k x l y n m t u whole put inv =
      let first = line d (node_name k ++ codes " [label = " ++ in_quotes (leaf_label v leaf (slice_get most x)) ++ codes "];") in
      let here : node_boxes v most d k x (nodes_of (drop i items)) ≡ first ++ node_boxes v most d (suc k) (suc x) rest =
      rw (nodes_drop items i node within is, e) refl in
      let place : l ≡ suc k = omega (arith, n) in
      let number : y ≡ suc x = omega (arith, m) in
      rw (put, place, number) (append_assoc t first (node_boxes v most d (suc k) (suc x) rest) ∙ (ap (λ r. t ++ r) (sym here) ∙ inv))

  -- an init's box is put at the end
  pub boxed_init : (init : InitNode) (children : Nodes) → node ≡ Init init children → (k x l y : ℕ) → l ≡ k + 1 + node_count children → y
      ≡ x + leaf_count children
      → (t u whole name : List ℕ) (quantum : Amount) → name ≡ init.name → quantum ≡ init.quantum
      → u ≡ t ++ cluster d k (init_label v name quantum children) (point_line (d + 1) k children) (node_boxes v most (d + 1) (k + 1) x children)
      → t ++ node_boxes v most d k x (nodes_of (drop i items)) ≡ whole
      → u ++ node_boxes v most d l y rest ≡ whole
  boxed_init init children e k x l y n m t u whole name quantum f g put inv =
      let box = λ (name : List ℕ) (quantum : Amount) (deep next : ℕ). cluster d k (init_label v name quantum children) (point_line deep k children)
      (node_boxes v most deep next x children) in
      let after = node_boxes v most d (suc k + node_count children) (x + leaf_count children) rest in
      let here : node_boxes v most d k x (nodes_of (drop i items)) ≡ box init.name init.quantum (suc d) (suc k) ++ after =
      rw (nodes_drop items i node within is, e) refl in
      let place : l ≡ suc k + node_count children = omega (arith, n) in
      let reported : u ≡ t ++ box init.name init.quantum (suc d) (suc k) = put ∙ (λ j. t ++ box (f j) (g j) (add-one d j) (add-one k j)) in
      rw (reported, place, m) (append_assoc t (box init.name init.quantum (suc d) (suc k)) after ∙ (ap (λ r. t ++ r) (sym here) ∙ inv))

-- the box of the root
pub root_box : (v : ℕ) (most : List Budget) (name t u : List ℕ) (quantum total : Amount) (children nodes : Nodes) → quantum ≡ total → children ≡ nodes
    → u ≡ t ++ cluster 1 0 (init_label v name quantum children) (point_line 2 0 children) (node_boxes v most 2 1 0 children)
    → u ≡ t ++ cluster 1 0 (init_label v name total nodes) (point_line 2 0 nodes) (node_boxes v most 2 1 0 nodes)
root_box v most name t u quantum total children nodes e f put =
    put ∙ (λ i. t ++ cluster 1 0 (init_label v name (e i) (f i)) (point_line 2 0 (f i)) (node_boxes v most 2 1 0 (f i)))

-- ARROWS

next_is : {A : Type 0} (all : List A) (i : ℕ) (x : A) → i < length all → x ≡ get_or all i x → drop i all ≡ x ∷ drop (i + 1) all
next_is all i x h is = rw (add-one i, drop-cons all i x) (ap (λ y. y ∷ drop (suc i) all) (sym is))

-- the arrow from a leaf that the table has by its number
pub after_by_number : (s : Scenario) (places : List ℕ) (to : ℕ) (after : Option (List ℕ))
    → arrow_from places (number_named after (λ name. numbered 0 name (components s))) to ≡ after_arrow (system s) places to after
after_by_number s places to None = refl
after_by_number s places to (Some name) = refl

arrows_listed : (places : List ℕ) (from : ℕ) (s : Scenario) (c : Component) (l : List (List ℕ))
    → arrows_of places from (opened_among (components s) c l) ≡ service_arrows (system s) places from c l
arrows_listed places from s c [] = refl
arrows_listed places from s c (service ∷ l) =
    ap (λ t. arrow_to places from (server_of (system s) c service) (in_quotes service) ++ t) (arrows_listed places from s c l)

module _ (s : Scenario) (places : List ℕ) (x : ℕ) (c : Component) (within : x < length (components s)) (is : c ≡ get_or (components s) x c) where
  -- the arrows of what is left are those of the leaf that stands there and those of what follows
  pub services_here : all_services (system s) places x (drop x (components s))
      ≡ arrows_of places (slice_index places x) (opened_of (components s) (slice_get (components s) x))
      ++ all_services (system s) places (x + 1) (drop (x + 1) (components s))
  services_here =
      let there : slice_get (components s) x ≡ Some c = slice_get-get_or (components s) x c within ∙ ap Some (sym is) in
      rw (there, next_is (components s) x c within is, add-one x)
      (ap (λ t. t ++ all_services (system s) places (suc x) (drop (suc x) (components s)))
      (sym (arrows_listed places (slice_index places x) s c (first_of_each [] (services c)))))

  pub afters_here : all_afters (system s) places x (drop x (components s))
      ≡ after_arrow (system s) places (slice_index places x) c.node.after ++ all_afters (system s) places (x + 1) (drop (x + 1) (components s))
  afters_here = rw (next_is (components s) x c within is, add-one x) refl
