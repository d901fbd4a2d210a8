-- The rows of a table of nodes.
use Rattle.std.proofs.Common.{◌≡◌, ℕ, zero, suc, ◌+◌, ◌<◌, ◌≤◌, List, [], ◌∷◌, ◌++◌, length, drop, get_or, Option, Some, None, IfSome, length-append}
use Rattle.std.proofs.Common.{append_assoc, append-nil}
use Rattle.std.proofs.Common.{refl, ap, sym, subst, ◌∙◌, arith, add-one, cond, ◌*◌, true, false}
use Rattle.std.specs.Prelude.{max}
use Rattle.std.proofs.Math.Nat.{le-max_left, le-max_right}
use Rattle.std.proofs.lemmas.Option.{slice_get-get_or}
use Rattle.std.proofs.lemmas.List.{length-map}
use Rattle.gq_model.specs.machine.Program.{text_eq}
use Rattle.gq_model.specs.machine.Routes.{numbered}
use Rattle.gq_model.specs.texts.Turns.{inputs_at, signals_at}
use Rattle.gq_scenario.specs.Component_trees.{nodes_of}
use Rattle.gq_scenario.specs.declared.scenario.Node.{Node}
use Rattle.gq_scenario.specs.declared.scenario.Node.TheVariants.{Leaf, Init}
use Rattle.gq_scenario.proofs.Tree_counts.{nodes_drop}
use Rattle.gq_scenario.proofs.Preorder_leaves.{components-count}
use Rattle.std.specs.Prelude.{slice_get, codes, map}
use Rattle.gq_model.specs.machine.Accounts.{leaf_count}
use Rattle.gq_model.specs.machine.Amounts.{Amount}
use Rattle.gq_model.specs.machine.Scenario.{Route, LeafNode, InitNode, Nodes, End, Leaf_node, Init_node, Level, Component, Scenario, level, below}
use Rattle.gq_model.specs.machine.Scenario.{components_of, components}
use Rattle.gq_scenario.specs.Sizes.{node_count, leaf_places, depth}
use Rattle.gq_resolve.specs.NodeTables.{NodeRow, LeafRow, leaf_node, init_node, rows_of, node_rows, IsNodeOf, leaf_row, leaf_rows_of, leaf_rows}
use Rattle.gq_resolve.specs.NodeTables.{interface_number, number_named}
use Rattle.gq_resolve.specs.Served.{AreServers, server_at}

-- HOW MANY

pub length-rows_of : (label : List ℕ) (parent n x : ℕ) (nodes : Nodes) → length (rows_of label parent n x nodes) ≡ node_count nodes
length-rows_of label parent n x End = refl
length-rows_of label parent n x (Leaf_node node rest) = let later = length-rows_of label parent (n + 1) (x + 1) rest in omega (arith, later)
length-rows_of label parent n x (Init_node node children rest) =
    let inner = length-rows_of (below label node.name) n (n + 1) x children in
    let later = length-rows_of label parent (n + 1 + node_count children) (x + leaf_count children) rest in
    let both = length-append (rows_of (below label node.name) n (n + 1) x children)
    (rows_of label parent (n + 1 + node_count children) (x + leaf_count children) rest) in
    omega (arith, inner, later, both)

pub length-leaf_places : (n : ℕ) (nodes : Nodes) → length (leaf_places n nodes) ≡ leaf_count nodes
length-leaf_places n End = refl
length-leaf_places n (Leaf_node node rest) = ap suc (length-leaf_places (n + 1) rest)
length-leaf_places n (Init_node node children rest) =
    length-append (leaf_places (n + 1) children) (leaf_places (n + (1 + node_count children)) rest)
    ∙ (λ i. length-leaf_places (n + 1) children i + length-leaf_places (n + (1 + node_count children)) rest i)

-- ONE MORE

module _ (label : List ℕ) (parent : ℕ) (done : List NodeRow) where
  -- a leaf is put at the end
  pub more_leaf : (x : ℕ) (node : LeafNode) (rest : Nodes) (name : List ℕ) → name ≡ below label node.name
      → (done ++ leaf_node name parent x node.quantum ∷ []) ++ rows_of label parent (length (done ++ leaf_node name parent x node.quantum ∷ [])) (x + 1) rest
      ≡ done ++ rows_of label parent (length done) x (Leaf_node node rest)
  more_leaf x node rest name e =
      let row = leaf_node name parent x node.quantum in
      let long : length (done ++ row ∷ []) ≡ length done + 1 = length-append done (row ∷ []) in
      append_assoc done (row ∷ []) (rows_of label parent (length (done ++ row ∷ [])) (x + 1) rest)
      ∙ (λ i. done ++ leaf_node (e i) parent x node.quantum ∷ rows_of label parent (long i) (x + 1) rest)

  -- an init is put at the end with what is below it
  pub more_init : (x y : ℕ) (node : InitNode) (children rest : Nodes) (name : List ℕ) (now : List NodeRow) → name ≡ below label node.name
      → now ≡ (done ++ init_node name (Some parent) node.quantum ∷ [])
      ++ rows_of name (length done) (length (done ++ init_node name (Some parent) node.quantum ∷ [])) x children
      → y ≡ x + leaf_count children
      → now ++ rows_of label parent (length now) y rest ≡ done ++ rows_of label parent (length done) x (Init_node node children rest)
  more_init x y node children rest name now e f g =
      let row = init_node name (Some parent) node.quantum in
      let one : length (done ++ row ∷ []) ≡ length done + 1 = length-append done (row ∷ []) in
      let inner = rows_of name (length done) (length done + 1) x children in
      let is : now ≡ done ++ (row ∷ inner) = f ∙ ((λ i. (done ++ row ∷ []) ++ rows_of name (length done) (one i) x children)
      ∙ append_assoc done (row ∷ []) inner) in
      let counted = length-rows_of name (length done) (length done + 1) x children in
      let long : length now ≡ length done + 1 + node_count children = omega (arith, ap length is, length-append done (row ∷ inner), counted) in
      (λ i. is i ++ rows_of label parent (long i) (g i) rest)
      ∙ (append_assoc done (row ∷ inner) (rows_of label parent (length done + 1 + node_count children) (x + leaf_count children) rest)
      ∙ (λ i. done ++ ((init_node (e i) (Some parent) node.quantum ∷ rows_of (e i) (length done) (length done + 1) x children)
      ++ rows_of label parent (length done + 1 + node_count children) (x + leaf_count children) rest)))

pub one_longer : (now done : List NodeRow) (row : NodeRow) → now ≡ done ++ row ∷ [] → length now ≡ length done + 1
one_longer now done row e = ap length e ∙ length-append done (row ∷ [])

-- A NODE OF A LIST

module _ (items : List Node) (i : ℕ) (node : Node) (within : i < length items) (is : node ≡ get_or items i node) where
  abbrev rest : Nodes
  rest = nodes_of (drop (i + 1) items)

  -- under a label that has room for all of these there is room for one more name, and for those that are left
  pub room_leaf : (n : ℕ) (leaf : LeafNode) → node ≡ Leaf leaf → n + 20 * depth (nodes_of (drop i items)) ≤ 96 → (n + 20 ≤ 96) × (n + 20 * depth rest ≤ 96)
  room_leaf n leaf e h =
      let deep : depth (nodes_of (drop i items)) ≡ max 1 (depth rest) = rw (nodes_drop items i node within is, e) refl in
      (omega (arith, h, deep, le-max_left 1 (depth rest)), omega (arith, h, deep, le-max_right 1 (depth rest)))

  pub room_init : (n : ℕ) (init : InitNode) (children : Nodes) → node ≡ Init init children → n + 20 * depth (nodes_of (drop i items)) ≤ 96
      → (n + 20 + 20 * depth children ≤ 96) × (n + 20 * depth rest ≤ 96)
  room_init n init children e h =
      let deep : depth (nodes_of (drop i items)) ≡ max (suc (depth children)) (depth rest) = rw (nodes_drop items i node within is, e) refl in
      (omega (arith, h, deep, le-max_left (suc (depth children)) (depth rest)), omega (arith, h, deep, le-max_right (suc (depth children)) (depth rest)))

  pub nodes_leaf : (leaf : LeafNode) → node ≡ Leaf leaf → node_count (nodes_of (drop i items)) ≡ 1 + node_count rest
  nodes_leaf leaf e = rw (nodes_drop items i node within is, e) refl

  module _ (label : List ℕ) (parent x : ℕ) (done total : List NodeRow)
      (made : done ++ rows_of label parent (length done) x (nodes_of (drop i items)) ≡ total) where
    pub made_leaf : (leaf : LeafNode) → node ≡ Leaf leaf → (now : List NodeRow) (name : List ℕ) (quantum : Amount) (y z : ℕ)
        → now ≡ done ++ leaf_node name parent y quantum ∷ [] → name ≡ below label leaf.name → quantum ≡ leaf.quantum → y ≡ x → z ≡ x + 1
        → now ++ rows_of label parent (length now) z rest ≡ total
    made_leaf leaf e now name quantum y z f g q h k =
        let here : now ≡ done ++ leaf_node name parent x leaf.quantum ∷ [] = f ∙ (λ j. done ++ leaf_node name parent (h j) (q j) ∷ []) in
        let whole : rows_of label parent (length done) x (nodes_of (drop i items)) ≡ rows_of label parent (length done) x (Leaf_node leaf rest) =
        rw (nodes_drop items i node within is, e) refl in
        (λ j. here j ++ rows_of label parent (length (here j)) (k j) rest)
        ∙ (more_leaf label parent done x leaf rest name g ∙ (ap (λ t. done ++ t) (sym whole) ∙ made))

    pub made_init : (init : InitNode) (children : Nodes) → node ≡ Init init children
        → (mid now : List NodeRow) (name above : List ℕ) (quantum : Amount) (place z : ℕ)
        → mid ≡ done ++ init_node name (Some parent) quantum ∷ [] → name ≡ below label init.name → above ≡ below label init.name → quantum ≡ init.quantum
        → place ≡ length done → now ≡ mid ++ rows_of above place (length mid) x children → z ≡ x + leaf_count children
        → now ++ rows_of label parent (length now) z rest ≡ total
    made_init init children e mid now name above quantum place z f g g' q p n k =
        let here : mid ≡ done ++ init_node name (Some parent) init.quantum ∷ [] = f ∙ (λ j. done ++ init_node name (Some parent) (q j) ∷ []) in
        let same : above ≡ name = g' ∙ sym g in
        let all : now ≡ (done ++ init_node name (Some parent) init.quantum ∷ [])
        ++ rows_of name (length done) (length (done ++ init_node name (Some parent) init.quantum ∷ [])) x children =
        n ∙ (λ j. here j ++ rows_of (same j) (p j) (length (here j)) x children) in
        let whole : rows_of label parent (length done) x (nodes_of (drop i items)) ≡ rows_of label parent (length done) x (Init_node init children rest) =
        rw (nodes_drop items i node within is, e) refl in
        more_init label parent done x z init children rest name now g all k ∙ (ap (λ t. done ++ t) (sym whole) ∙ made)

-- THE NODES OF LEAVES

-- the nodes at these places are those of these leaves
abbrev pub AreNodesOf : List NodeRow → List ℕ → List Component → Type 0
AreNodesOf rows [] [] = Unit {0}
AreNodesOf rows (p ∷ places) (c ∷ cs) = IsNodeOf rows p c × AreNodesOf rows places cs
AreNodesOf rows [] (c ∷ cs) = ⊥
AreNodesOf rows (p ∷ places) [] = ⊥

nodes_both : (rows : List NodeRow) (ps qs : List ℕ) (cs ds : List Component) → AreNodesOf rows ps cs → AreNodesOf rows qs ds
    → AreNodesOf rows (ps ++ qs) (cs ++ ds)
nodes_both rows [] qs [] ds h k = k
nodes_both rows [] qs (c ∷ cs) ds h k = absurd h
nodes_both rows (p ∷ ps) qs [] ds h k = absurd h
nodes_both rows (p ∷ ps) qs (c ∷ cs) ds h k = (h.0, nodes_both rows ps qs cs ds h.1 k)

get_past : (prefix : List NodeRow) (row : NodeRow) (back : List NodeRow) → slice_get (prefix ++ row ∷ back) (length prefix) ≡ Some row
get_past [] row back = refl
get_past (r ∷ prefix) row back = get_past prefix row back

module _ (all : List NodeRow) where
  nodes_of_leaves : (label : List ℕ) (routes : Option (List Route)) (siblings : Nodes) (above : List Level) (parent n x : ℕ) (prefix back : List NodeRow)
      (nodes : Nodes)
      → length prefix ≡ n → all ≡ prefix ++ (rows_of label parent n x nodes ++ back)
      → AreNodesOf all (leaf_places n nodes) (components_of label routes siblings above nodes)
  nodes_of_leaves label routes siblings above parent n x prefix back End e f = tt
  nodes_of_leaves label routes siblings above parent n x prefix back (Leaf_node node rest) e f =
      let row = leaf_node (below label node.name) parent x node.quantum in
      let later = rows_of label parent (n + 1) (x + 1) rest in
      let here : slice_get all n ≡ Some row = (λ i. slice_get (f i) (sym e i)) ∙ get_past prefix row (later ++ back) in
      let long : length (prefix ++ row ∷ []) ≡ n + 1 = length-append prefix (row ∷ []) ∙ ap (λ m. m + 1) e in (
        (row, here, refl, refl),
        nodes_of_leaves label routes siblings above parent (n + 1) (x + 1) (prefix ++ row ∷ []) back rest long
            (f ∙ sym (append_assoc prefix (row ∷ []) (later ++ back))),
      )
  nodes_of_leaves label routes siblings above parent n x prefix back (Init_node node children rest) e f =
      let row = init_node (below label node.name) (Some parent) node.quantum in
      let inner = rows_of (below label node.name) n (n + 1) x children in
      let later = rows_of label parent (n + 1 + node_count children) (x + leaf_count children) rest in
      let long : length (prefix ++ row ∷ []) ≡ n + 1 = length-append prefix (row ∷ []) ∙ ap (λ m. m + 1) e in
      let counted = length-rows_of (below label node.name) n (n + 1) x children in
      let past : length (prefix ++ (row ∷ inner)) ≡ n + 1 + node_count children = omega (arith, length-append prefix (row ∷ inner), counted, e) in
      let same : n + 1 + node_count children ≡ n + (1 + node_count children) = omega arith in
      let split : all ≡ prefix ++ (row ∷ (inner ++ (later ++ back))) = f ∙ ap (λ t. prefix ++ (row ∷ t)) (append_assoc inner later back) in
      let below_it = nodes_of_leaves (below label node.name) node.default_routes children (level node.routes routes siblings ∷ above) n (n + 1) x (prefix
      ++ row ∷ []) (later ++ back)
      children long (split ∙ sym (append_assoc prefix (row ∷ []) (inner ++ (later ++ back)))) in
      let after_it = nodes_of_leaves label routes siblings above parent (n + 1 + node_count children) (x + leaf_count children) (prefix
      ++ (row ∷ inner)) back rest past
      (split ∙ sym (append_assoc prefix (row ∷ inner) (later ++ back))) in
      nodes_both all (leaf_places (n + 1) children) (leaf_places (n + (1 + node_count children)) rest)
      (components_of (below label node.name) node.default_routes children (level node.routes routes siblings ∷ above) children)
      (components_of label routes siblings above rest) below_it
      (subst (λ m. AreNodesOf all (leaf_places m rest) (components_of label routes siblings above rest)) same after_it)

pub leaf_nodes_are : (s : Scenario) → AreNodesOf (node_rows s) (leaf_places 1 s.nodes) (components s)
leaf_nodes_are s =
    nodes_of_leaves (node_rows s) (codes "init") s.default_routes s.nodes [] 0 1 0 (init_node (codes "init") None s.total ∷ []) [] s.nodes refl
    (ap (λ t. init_node (codes "init") None s.total ∷ t) (sym (append-nil (rows_of (codes "init") 0 1 0 s.nodes))))

-- LEAVES

some_row : (a b : LeafRow) → Some a ≡ Some b → a ≡ b
some_row a b e = cc

drop_at : (cs : List Component) (x : ℕ) (c : Component) → slice_get cs x ≡ Some c → drop x cs ≡ c ∷ drop (suc x) cs
drop_at [] x c e = cc
drop_at (d ∷ cs) zero c e = cc
drop_at (d ∷ cs) (suc x) c e = drop_at cs x c e

-- what stands in the row of a leaf
pub record RowAt (s : Scenario) (rows : List NodeRow) (leaves : List LeafRow) (cs : List Component) (x : ℕ) : Type 0 where
  pub place : ℕ
  pub component : Component
  pub row : slice_get leaves x ≡ Some (leaf_row s place component)
  pub there : slice_get cs x ≡ Some component
  pub node : IsNodeOf rows place component

rows_at : (s : Scenario) (rows : List NodeRow) (places : List ℕ) (cs : List Component) (x : ℕ) → AreNodesOf rows places cs → x < length cs
    → RowAt s rows (leaf_rows_of s places cs) cs x
rows_at s rows [] [] x h less = absurd (omega (arith, less))
rows_at s rows [] (c ∷ cs) x h less = absurd h
rows_at s rows (p ∷ places) [] x h less = absurd h
rows_at s rows (p ∷ places) (c ∷ cs) zero h less = record { place = p; component = c; row = refl; there = refl; node = h.0 }
rows_at s rows (p ∷ places) (c ∷ cs) (suc x) h less =
    let r = rows_at s rows places cs x h.1 (omega (arith, less)) in
    record { place = r.place; component = r.component; row = r.row; there = r.there; node = r.node }

pub row_at : (s : Scenario) (x : ℕ) → x < length (components s) → RowAt s (node_rows s) (leaf_rows s) (components s) x
row_at s x less = rows_at s (node_rows s) (leaf_places 1 s.nodes) (components s) x (leaf_nodes_are s) less

length-leaf_rows_of : (s : Scenario) (places : List ℕ) (cs : List Component) → length places ≡ length cs → length (leaf_rows_of s places cs) ≡ length cs
length-leaf_rows_of s [] [] e = refl
length-leaf_rows_of s [] (c ∷ cs) e = absurd (omega (arith, e))
length-leaf_rows_of s (p ∷ places) [] e = absurd (omega (arith, e))
length-leaf_rows_of s (p ∷ places) (c ∷ cs) e = ap suc (length-leaf_rows_of s places cs (omega (arith, e)))

pub leaf_rows-count : (s : Scenario) → length (leaf_rows s) ≡ length (components s)
leaf_rows-count s = length-leaf_rows_of s (leaf_places 1 s.nodes) (components s) (length-leaf_places 1 s.nodes ∙ components-count s)

-- the row that stands there is the leaf's
module _ (s : Scenario) (leaves : List LeafRow) (x : ℕ) (r : LeafRow) (all : leaves ≡ leaf_rows s) (less : x < length (components s))
    (is : r ≡ get_or leaves x r) where
  pub row_here : slice_get (leaf_rows s) x ≡ Some r
  row_here =
      let long : x < length leaves = omega (arith, less, ap length all, leaf_rows-count s) in
      ap (λ l. slice_get l x) (sym all) ∙ (slice_get-get_or leaves x r long ∙ ap Some (sym is))

  same_row : r ≡ leaf_row s (row_at s x less).place (row_at s x less).component
  same_row = let a = row_at s x less in some_row r (leaf_row s a.place a.component) (sym row_here ∙ a.row)

  pub node_here : IfSome (slice_get (components s) x) (λ c. IsNodeOf (node_rows s) r.node c)
  node_here =
      let a = row_at s x less in
      subst (λ (o : Option Component). IfSome o (λ c. IsNodeOf (node_rows s) r.node c)) (sym a.there)
      (subst (λ (n : ℕ). IsNodeOf (node_rows s) n a.component) (sym (ap (λ l. l.node) same_row)) a.node)

  pub inputs_here : r.inputs ≡ inputs_at (slice_get (components s) x)
  inputs_here = let a = row_at s x less in ap (λ l. l.inputs) same_row ∙ sym (ap inputs_at a.there)

  pub signals_here : r.signals ≡ signals_at (slice_get (components s) x)
  signals_here = let a = row_at s x less in ap (λ l. l.signals) same_row ∙ sym (ap signals_at a.there)

  pub servers_here : length r.servers ≡ length s.interfaces
  servers_here = ap (λ l. length l.servers) same_row ∙ length-map s.interfaces _

  -- the leaf of a name is this one, or one after it
  pub numbered_here : (name : List ℕ) → numbered x name (drop x (components s))
      ≡ cond (text_eq name r.name) (Some x) (numbered (x + 1) name (drop (x + 1) (components s)))
  numbered_here name =
      let a = row_at s x less in
      let next : drop x (components s) ≡ a.component ∷ drop (suc x) (components s) = drop_at (components s) x a.component a.there in
      let named : r.name ≡ a.component.node.name = ap (λ l. l.name) same_row in
      ap (numbered x name) next ∙ (λ i. cond (text_eq name (sym named i)) (Some x)
      (numbered (sym (add-one x) i) name (drop (sym (add-one x) i) (components s))))

  -- it is this one
  pub found_here : (name own : List ℕ) → own ≡ r.name → text_eq name own ≡ true → numbered x name (drop x (components s)) ≡ Some x
  found_here name own e t =
      numbered_here name ∙ (ap (λ n. cond (text_eq name n) (Some x) (numbered (x + 1) name (drop (x + 1) (components s)))) (sym e)
      ∙ ap (λ b. cond b (Some x) (numbered (x + 1) name (drop (x + 1) (components s)))) t)

  -- it is one of those after it
  pub found_later : (name own : List ℕ) → own ≡ r.name → text_eq name own ≡ false
      → numbered x name (drop x (components s)) ≡ numbered (x + 1) name (drop (x + 1) (components s))
  found_later name own e t =
      numbered_here name ∙ (ap (λ n. cond (text_eq name n) (Some x) (numbered (x + 1) name (drop (x + 1) (components s)))) (sym e)
      ∙ ap (λ b. cond b (Some x) (numbered (x + 1) name (drop (x + 1) (components s)))) t)

-- what is kept of a leaf is its row
pub row_made : (s : Scenario) (routes : List (List (List ℕ × ℕ))) → AreServers s routes → (cs : List Component) → cs ≡ components s → (x place : ℕ)
    (item : Component)
    → x < length cs → item ≡ get_or cs x item → (row : LeafRow) → row.name ≡ item.node.name → row.node ≡ place
    → row.service ≡ number_named item.node.provides (λ name. interface_number 0 name s.interfaces)
    → row.after ≡ number_named item.node.after (λ name. numbered 0 name cs) → row.inputs ≡ item.node.inputs
    → row.signals ≡ item.node.signals → row.servers ≡ map (λ e. server_at x e.0 routes) s.interfaces → IfSome (slice_get cs x) (λ c. row ≡ leaf_row s place c)
row_made s routes are cs all x place item less is row name node service after inputs signals servers =
    let there : slice_get cs x ≡ Some item = slice_get-get_or cs x item less ∙ ap Some (sym is) in
    let at : slice_get (components s) x ≡ Some item = ap (λ l. slice_get l x) (sym all) ∙ there in
    let afters = after ∙ ap (λ (l : List Component). number_named item.node.after (λ name. numbered 0 name l)) all in
    let given = servers ∙ (λ j. map (λ e. are.reported x item at e.0 j) s.interfaces) in
    subst (λ (o : Option Component). IfSome o (λ c. row ≡ leaf_row s place c)) (sym there) (λ i. record {
      name = name i;
      node = node i;
      service = service i;
      after = afters i;
      inputs = inputs i;
      signals = signals i;
      servers = given i;
    })

-- one leaf more
pub more_leaves : (s : Scenario) (places : List ℕ) (cs : List Component) (i p : ℕ) → i < length places → length places ≡ length cs → p ≡ get_or places i p
    → (e : LeafRow) → IfSome (slice_get cs i) (λ c. e ≡ leaf_row s p c)
    → leaf_rows_of s (drop i places) (drop i cs) ≡ e ∷ leaf_rows_of s (drop (suc i) places) (drop (suc i) cs)
more_leaves s [] cs i p less f g e h = absurd (omega (arith, less))
more_leaves s (q ∷ places) [] i p less f g e h = absurd (omega (arith, f))
more_leaves s (q ∷ places) (c ∷ cs) zero p less f g e h =
    (λ i. leaf_row s (sym g i) c ∷ leaf_rows_of s places cs) ∙ ap (λ l. l ∷ leaf_rows_of s places cs) (sym h)
more_leaves s (q ∷ places) (c ∷ cs) (suc i) p less f g e h = more_leaves s places cs i p (omega (arith, less)) (omega (arith, f)) g e h

pub places-count : (s : Scenario) → length (leaf_places 1 s.nodes) ≡ length (components s)
places-count s = length-leaf_places 1 s.nodes ∙ components-count s

-- WHAT A NODE HAS OF ITS LEAF

pub record LeafAt (rows : List NodeRow) (n x : ℕ) (cs : List Component) : Type 0 where
  pub component : Component
  pub there : slice_get cs x ≡ Some component
  pub next : drop x cs ≡ component ∷ drop (x + 1) cs
  pub node : IsNodeOf rows n component

component_at : (cs : List Component) (x : ℕ) → x < length cs → (c : Component) × (slice_get cs x ≡ Some c)
component_at [] x less = absurd (omega (arith, less))
component_at (c ∷ cs) zero less = (c, refl)
component_at (c ∷ cs) (suc x) less = component_at cs x (omega (arith, less))

pub leaf_at : (rows : List NodeRow) (n x : ℕ) (cs : List Component) → x < length cs → IfSome (slice_get cs x) (λ c. IsNodeOf rows n c) → LeafAt rows n x cs
leaf_at rows n x cs less h =
    let c = component_at cs x less in
    record {
      component = c.0;
      there = c.1;
      next = drop_at cs x c.0 c.1 ∙ ap (λ m. c.0 ∷ drop m cs) (sym (add-one x));
      node = subst (λ (o : Option Component). IfSome o (λ c. IsNodeOf rows n c)) c.1 h;
    }

pub label_of_node : (rows : List NodeRow) (n : ℕ) (c : Component) (label : List ℕ) → IsNodeOf rows n c → IfSome (slice_get rows n) (λ r. label ≡ r.label)
    → label ≡ c.label
label_of_node rows n c label h k = subst (λ (o : Option NodeRow). IfSome o (λ r. label ≡ r.label)) h.1 k ∙ h.2

pub quantum_of_node : (rows : List NodeRow) (n : ℕ) (c : Component) (q : Amount) → IsNodeOf rows n c → IfSome (slice_get rows n) (λ r. q ≡ r.quantum)
    → q ≡ c.node.quantum
quantum_of_node rows n c q h k = subst (λ (o : Option NodeRow). IfSome o (λ r. q ≡ r.quantum)) h.1 k ∙ h.3
