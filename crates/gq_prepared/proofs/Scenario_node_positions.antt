-- Where the nodes of a scenario stand: each below an init, each leaf beside its siblings.
use Rattle.std.proofs.Common.{◌≡◌, ℕ, zero, suc, ◌+◌, ◌<◌, inl, inr, Bool, true, false, cond, List, [], ◌∷◌, Option, Some, None, codes}
use Rattle.std.proofs.Common.{refl, ap, sym, subst, ◌∙◌, arith}
use Rattle.std.specs.Prelude.{slice_get}
use Rattle.gq_model.specs.machine.Accounts.{leaf_count}
use Rattle.gq_model.specs.machine.Program.{text_eq}
use Rattle.gq_model.specs.machine.Scenario.{Route, LeafNode, InitNode, Nodes, End, Leaf_node, Init_node, Level, level, below, Component, components_of}
use Rattle.gq_model.specs.machine.Scenario.{components, Scenario}
use Rattle.gq_model.specs.rules.Resolve.{leaf_child, sibling}
use Rattle.gq_model.proofs.Small_facts.{some_same, none_some}
use Rattle.gq_model.proofs.Component_laws.{components_count}
use Rattle.gq_scenario.specs.Sizes.{node_count, leaf_places}
use Rattle.gq_resolve.specs.NodeTables.{NodeRow, leaf_node, init_node, rows_of, node_rows}
use Rattle.gq_resolve.proofs.Node_table_rows.{length-rows_of, length-leaf_places}
use Rattle.gq_laws.proofs.quota_payment.Leaf_component_positions.{get_left, get_right}
use Rattle.gq_prepared.proofs.Joined_lists.{in_append, Stand, stand_left, stand_right, stand_tail, stand_whole}

-- a leaf with its node under that init
pub record Found (all : List NodeRow) (places : List ℕ) (cs : List Component) (under : ℕ) (b : LeafNode) : Type 0 where
  pub number : ℕ
  pub component : Component
  pub place : ℕ
  pub row : NodeRow
  pub known : slice_get cs number ≡ Some component
  pub is : component.node ≡ b
  pub at : slice_get places number ≡ Some place
  pub there : slice_get all place ≡ Some row
  pub quantum : row.quantum ≡ component.node.quantum
  pub parent : row.parent ≡ Some under

-- the node of a leaf, by its number
pub record LeafNodePosition (all : List NodeRow) (places : List ℕ) (cs : List Component) (x : ℕ) (c : Component) : Type 0 where
  pub place : ℕ
  pub row : NodeRow
  pub at : slice_get places x ≡ Some place
  pub there : slice_get all place ≡ Some row
  pub leaf : row.leaf ≡ Some x
  pub quantum : row.quantum ≡ c.node.quantum
  pub under : ℕ
  pub parent : row.parent ≡ Some under
  -- a leaf of its level stands under the same init
  pub beside : (name : List ℕ) (b : LeafNode) → sibling name c.levels ≡ Some b → Found all places cs under b

-- a node has an init above it
pub record Above (all : List NodeRow) (i : ℕ) (row : NodeRow) : Type 0 where
  pub place : ℕ
  pub up : NodeRow
  pub is : row.parent ≡ Some place
  pub less : place < i
  pub there : slice_get all place ≡ Some up
  pub init : up.leaf ≡ None

module _ (all : List NodeRow) (places : List ℕ) (cs : List Component) where
  -- these nodes stand there, the first as the n-th node and the leaves from the x-th on
  record Here (label : List ℕ) (routes : Option (List Route)) (siblings : Nodes) (levels : List Level) (parent n x : ℕ) (nodes : Nodes) : Type 0 where
    rows : Stand all n (rows_of label parent n x nodes)
    slot_ids : Stand places x (leaf_places n nodes)
    leaves : Stand cs x (components_of label routes siblings levels nodes)

  module _ (label : List ℕ) (routes : Option (List Route)) (siblings : Nodes) (levels : List Level) (parent n x : ℕ) where
    after_leaf : (node : LeafNode) (rest : Nodes) → Here label routes siblings levels parent n x (Leaf_node node rest)
        → Here label routes siblings levels parent (n + 1) (x + 1) rest
    after_leaf node rest h = record {
      rows = stand_tail all n (n + 1) _ _ h.rows refl;
      slot_ids = stand_tail places x (x + 1) _ _ h.slot_ids refl;
      leaves = stand_tail cs x (x + 1) _ _ h.leaves refl;
    }

    within_init : (node : InitNode) (children rest : Nodes) → Here label routes siblings levels parent n x (Init_node node children rest)
        → Here (below label node.name) node.default_routes children (level node.routes routes siblings ∷ levels) n (n + 1) x children
    within_init node children rest h = record {
      rows = stand_left all (n + 1) (rows_of (below label node.name) n (n + 1) x children) _ (stand_tail all n (n + 1) _ _ h.rows refl);
      slot_ids = stand_left places x (leaf_places (n + 1) children) _ h.slot_ids;
      leaves = stand_left cs x
          (components_of (below label node.name) node.default_routes children (level node.routes routes siblings ∷ levels) children) _ h.leaves;
    }

    after_init : (node : InitNode) (children rest : Nodes) → Here label routes siblings levels parent n x (Init_node node children rest)
        → Here label routes siblings levels parent (n + 1 + node_count children) (x + leaf_count children) rest
    after_init node children rest h =
        let inner = components_of (below label node.name) node.default_routes children (level node.routes routes siblings ∷ levels) children in
        let counted = length-rows_of (below label node.name) n (n + 1) x children in
        let few = length-leaf_places (n + 1) children in
        let many = components_count (below label node.name) node.default_routes children (level node.routes routes siblings ∷ levels) children in
        let same : n + (1 + node_count children) ≡ n + 1 + node_count children = omega arith in
        record {
          rows = stand_right all (n + 1) (n + 1 + node_count children) (rows_of (below label node.name) n (n + 1) x children) _
              (stand_tail all n (n + 1) _ _ h.rows refl) (omega (arith, counted));
          slot_ids = subst (λ m. Stand places (x + leaf_count children) (leaf_places m rest)) same
              (stand_right places x (x + leaf_count children) (leaf_places (n + 1) children) (leaf_places (n + (1 + node_count children)) rest) h.slot_ids
              (omega (arith, few)));
          leaves = stand_right cs x (x + leaf_count children) inner _ h.leaves (omega (arith, many));
        }

    -- the first is a leaf
    first_leaf : (node : LeafNode) (rest : Nodes) → Here label routes siblings levels parent n x (Leaf_node node rest)
        → (slice_get all n ≡ Some (leaf_node (below label node.name) parent x node.quantum)) × (slice_get places x ≡ Some n)
        × (slice_get cs x ≡ Some (record { label = below label node.name; node = node; levels = level node.routes routes siblings ∷ levels }))
    first_leaf node rest h = (h.rows 0 _ refl n (omega arith), h.slot_ids 0 _ refl x (omega arith), h.leaves 0 _ refl x (omega arith))

    first_init : (node : InitNode) (children rest : Nodes) → Here label routes siblings levels parent n x (Init_node node children rest)
        → slice_get all n ≡ Some (init_node (below label node.name) (Some parent) node.quantum)
    first_init node children rest h = h.rows 0 _ refl n (omega arith)

  -- a leaf of this name stands there
  find : (label : List ℕ) (routes : Option (List Route)) (siblings : Nodes) (levels : List Level) (parent n x : ℕ) (nodes : Nodes)
      → Here label routes siblings levels parent n x nodes → (name : List ℕ) (b : LeafNode) → leaf_child name nodes ≡ Some b → Found all places cs parent b
  find label routes siblings levels parent n x End h name b e = absurd (none_some e)
  find label routes siblings levels parent n x (Leaf_node node rest) h name b e =
      by (text_eq name node.name) e
      (λ f. find label routes siblings levels parent (n + 1) (x + 1) rest (after_leaf label routes siblings levels parent n x node rest h) name b f)
    where
      by : (t : Bool) → cond t (Some node) (leaf_child name rest) ≡ Some b → (leaf_child name rest ≡ Some b → Found all places cs parent b)
          → Found all places cs parent b
      by true f further =
          let first = first_leaf label routes siblings levels parent n x node rest h in
          record {
            number = x;
            component = record { label = below label node.name; node = node; levels = level node.routes routes siblings ∷ levels };
            place = n;
            row = leaf_node (below label node.name) parent x node.quantum;
            known = first.2;
            is = some_same f;
            at = first.1;
            there = first.0;
            quantum = refl;
            parent = refl;
          }
      by false f further = further f
  find label routes siblings levels parent n x (Init_node node children rest) h name b e =
      find label routes siblings levels parent (n + 1 + node_count children) (x + leaf_count children) rest
      (after_init label routes siblings levels parent n x node children rest h) name b e

  -- each leaf has its node there
  slot_ids : (label : List ℕ) (routes : Option (List Route)) (siblings : Nodes) (levels : List Level) (parent n x : ℕ) (nodes : Nodes)
      → Here label routes siblings levels parent n x nodes
      → ((name : List ℕ) (b : LeafNode) → leaf_child name siblings ≡ Some b → Found all places cs parent b) → (k : ℕ) (c : Component) (y : ℕ)
      → slice_get (components_of label routes siblings levels nodes) k ≡ Some c → y ≡ x + k → LeafNodePosition all places cs y c
  slot_ids label routes siblings levels parent n x End h found k c y e at = absurd (none_some e)
  slot_ids label routes siblings levels parent n x (Leaf_node node rest) h found zero c y e at =
      subst (λ c. LeafNodePosition all places cs y c) (some_same e) (subst (λ z. LeafNodePosition all places cs z own) place (record {
        place = n;
        row = leaf_node (below label node.name) parent x node.quantum;
        at = first.1;
        there = first.0;
        leaf = refl;
        quantum = refl;
        under = parent;
        parent = refl;
        beside = found;
      }))
    where
      own : Component
      own = record { label = below label node.name; node = node; levels = level node.routes routes siblings ∷ levels }

      place : x ≡ y
      place = omega (arith, at)

      first : (slice_get all n ≡ Some (leaf_node (below label node.name) parent x node.quantum)) × (slice_get places x ≡ Some n)
          × (slice_get cs x ≡ Some own)
      first = first_leaf label routes siblings levels parent n x node rest h
  slot_ids label routes siblings levels parent n x (Leaf_node node rest) h found (suc k) c y e at =
      slot_ids label routes siblings levels parent (n + 1) (x + 1) rest (after_leaf label routes siblings levels parent n x node rest h) found k c y e
      (omega (arith, at))
  slot_ids label routes siblings levels parent n x (Init_node node children rest) h found k c y e at =
      let inner = components_of (below label node.name) node.default_routes children (level node.routes routes siblings ∷ levels) children in
      let outer = components_of label routes siblings levels rest in
      let many = components_count (below label node.name) node.default_routes children (level node.routes routes siblings ∷ levels) children in
      let own = within_init label routes siblings levels parent n x node children rest h in
      elim (in_append inner outer k c e) [
        | inl f ↦
            slot_ids (below label node.name) node.default_routes children (level node.routes routes siblings ∷ levels) n (n + 1) x children own
            (find (below label node.name) node.default_routes children (level node.routes routes siblings ∷ levels) n (n + 1) x children own) k c y f at
        | inr u ↦
            let past = u.1 in
            slot_ids label routes siblings levels parent (n + 1 + node_count children) (x + leaf_count children) rest
            (after_init label routes siblings levels parent n x node children rest h) found u.0 c y u.2 (omega (arith, past, at, many))
      ]

  -- each node has an init above it
  aboves : (label : List ℕ) (routes : Option (List Route)) (siblings : Nodes) (levels : List Level) (parent n x : ℕ) (nodes : Nodes)
      → Here label routes siblings levels parent n x nodes → (up : NodeRow) → slice_get all parent ≡ Some up → up.leaf ≡ None → parent < n
      → (k : ℕ) (row : NodeRow) (i : ℕ) → slice_get (rows_of label parent n x nodes) k ≡ Some row → i ≡ n + k → Above all i row
  aboves label routes siblings levels parent n x End h up there init less k row i e at = absurd (none_some e)
  aboves label routes siblings levels parent n x (Leaf_node node rest) h up there init less zero row i e at =
      subst (λ row. Above all i row) (some_same e)
      (record { place = parent; up = up; is = refl; less = omega (arith, less, at); there = there; init = init })
  aboves label routes siblings levels parent n x (Leaf_node node rest) h up there init less (suc k) row i e at =
      aboves label routes siblings levels parent (n + 1) (x + 1) rest (after_leaf label routes siblings levels parent n x node rest h) up there init
      (omega (arith, less)) k row i e (omega (arith, at))
  aboves label routes siblings levels parent n x (Init_node node children rest) h up there init less zero row i e at =
      subst (λ row. Above all i row) (some_same e)
      (record { place = parent; up = up; is = refl; less = omega (arith, less, at); there = there; init = init })
  aboves label routes siblings levels parent n x (Init_node node children rest) h up there init less (suc k) row i e at =
      let inner = rows_of (below label node.name) n (n + 1) x children in
      let later = rows_of label parent (n + 1 + node_count children) (x + leaf_count children) rest in
      let counted = length-rows_of (below label node.name) n (n + 1) x children in
      elim (in_append inner later k row e) [
        | inl f ↦
            aboves (below label node.name) node.default_routes children (level node.routes routes siblings ∷ levels) n (n + 1) x children
            (within_init label routes siblings levels parent n x node children rest h) (init_node (below label node.name) (Some parent) node.quantum)
            (first_init label routes siblings levels parent n x node children rest h) refl (omega arith) k row i f (omega (arith, at))
        | inr u ↦
            let past = u.1 in
            aboves label routes siblings levels parent (n + 1 + node_count children) (x + leaf_count children) rest
            (after_init label routes siblings levels parent n x node children rest h) up there init (omega (arith, less)) u.0 row i u.2
            (omega (arith, past, at, counted))
      ]

-- the node that a leaf's row says is the place of that leaf
leaf_of : (label : List ℕ) (parent n x : ℕ) (nodes : Nodes) (k : ℕ) (row : NodeRow) (y i : ℕ) → slice_get (rows_of label parent n x nodes) k ≡ Some row
    → row.leaf ≡ Some y → i ≡ n + k → (m : ℕ) × (y ≡ x + m) × (slice_get (leaf_places n nodes) m ≡ Some i)
leaf_of label parent n x End k row y i e is at = absurd (none_some e)
leaf_of label parent n x (Leaf_node node rest) zero row y i e is at =
    let same : x ≡ y = some_same (ap (λ (r : NodeRow). r.leaf) (some_same e) ∙ is) in
    let place : n ≡ i = omega (arith, at) in
    (0, omega (arith, same), ap Some place)
leaf_of label parent n x (Leaf_node node rest) (suc k) row y i e is at =
    let u = leaf_of label parent (n + 1) (x + 1) rest k row y i e is (omega (arith, at)) in
    let which = u.1 in
    (suc u.0, omega (arith, which), u.2)
leaf_of label parent n x (Init_node node children rest) zero row y i e is at =
    absurd (none_some (ap (λ (r : NodeRow). r.leaf) (some_same e) ∙ is))
leaf_of label parent n x (Init_node node children rest) (suc k) row y i e is at =
    let inner = rows_of (below label node.name) n (n + 1) x children in
    let later = rows_of label parent (n + 1 + node_count children) (x + leaf_count children) rest in
    let counted = length-rows_of (below label node.name) n (n + 1) x children in
    let few = length-leaf_places (n + 1) children in
    let same : n + 1 + node_count children ≡ n + (1 + node_count children) = omega arith in
    let prefix = leaf_places (n + 1) children in
    let back = leaf_places (n + (1 + node_count children)) rest in
    elim (in_append inner later k row e) [
      | inl f ↦
          let u = leaf_of (below label node.name) n (n + 1) x children k row y i f is (omega (arith, at)) in
          (u.0, u.1, get_left prefix back u.0 i u.2)
      | inr t ↦
          let past = t.1 in
          let u = leaf_of label parent (n + 1 + node_count children) (x + leaf_count children) rest t.0 row y i t.2 is (omega (arith, past, at, counted)) in
          let which = u.1 in (
            leaf_count children + u.0,
            omega (arith, which),
            get_right prefix back u.0 (leaf_count children + u.0) i (omega (arith, few)) (ap (λ m. slice_get (leaf_places m rest) u.0) (sym same) ∙ u.2),
          )
    ]

module _ (s : Scenario) where
  abbrev rows : List NodeRow
  rows = node_rows s

  abbrev places : List ℕ
  places = leaf_places 1 s.nodes

  whole : Here rows places (components s) (codes "init") s.default_routes s.nodes [] 0 1 0 s.nodes
  whole = record {
    rows = stand_tail rows 0 1 _ _ (stand_whole rows) refl;
    slot_ids = stand_whole places;
    leaves = stand_whole (components s);
  }

  pub slot_id_of : (x : ℕ) (c : Component) → slice_get (components s) x ≡ Some c → LeafNodePosition rows places (components s) x c
  slot_id_of x c e =
      slot_ids rows places (components s) (codes "init") s.default_routes s.nodes [] 0 1 0 s.nodes whole
      (find rows places (components s) (codes "init") s.default_routes s.nodes [] 0 1 0 s.nodes whole) x c x e (omega arith)

  pub above_at : (i : ℕ) (row : NodeRow) → slice_get rows (suc i) ≡ Some row → Above rows (suc i) row
  above_at i row e =
      aboves rows places (components s) (codes "init") s.default_routes s.nodes [] 0 1 0 s.nodes whole (init_node (codes "init") None s.total) refl refl
      (omega arith) i row (suc i) e (omega arith)

  -- the node of a leaf's row is at the leaf's place
  pub place_of : (i : ℕ) (row : NodeRow) (y : ℕ) → slice_get rows i ≡ Some row → row.leaf ≡ Some y → slice_get places y ≡ Some i
  place_of zero row y e is = absurd (none_some (ap (λ (r : NodeRow). r.leaf) (some_same e) ∙ is))
  place_of (suc k) row y e is =
      let u = leaf_of (codes "init") 0 1 0 s.nodes k row y (suc k) e is (omega arith) in
      let which = u.1 in
      let same : y ≡ u.0 = omega (arith, which) in
      ap (slice_get places) same ∙ u.2
