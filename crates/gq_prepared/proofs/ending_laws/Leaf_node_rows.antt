-- Which rows of a table of nodes are those of leaves.
use Rattle.std.proofs.Common.{◌≡◌, ℕ, zero, suc, ◌+◌, ◌⊎◌, inl, inr, List, [], ◌∷◌, ◌++◌, length, Some, None, refl, ap, sym, ◌∙◌, arith}
use Rattle.std.specs.Prelude.{codes, slice_get}
use Rattle.gq_model.proofs.Small_facts.{none_some, some_same}
use Rattle.gq_model.specs.machine.Accounts.{leaf_count}
use Rattle.gq_model.specs.machine.Scenario.{Nodes, End, Leaf_node, Init_node, Scenario, below}
use Rattle.gq_scenario.specs.Sizes.{leaf_places, node_count}
use Rattle.gq_resolve.specs.NodeTables.{NodeRow, init_node, leaf_node, node_rows, rows_of}
use Rattle.gq_resolve.proofs.Node_table_rows.{length-rows_of}

-- LISTS

get_left : {A : Type 0} (xs ys : List A) (i : ℕ) (a : A) → slice_get xs i ≡ Some a → slice_get (xs ++ ys) i ≡ Some a
get_left [] ys i a e = absurd (none_some e)
get_left (x ∷ xs) ys zero a e = e
get_left (x ∷ xs) ys (suc i) a e = get_left xs ys i a e

get_right : {A : Type 0} (xs ys : List A) (i n : ℕ) (a : A) → n ≡ length xs + i → slice_get ys i ≡ Some a → slice_get (xs ++ ys) n ≡ Some a
get_right [] ys i n a same e = let s : n ≡ i = omega arith in ap (slice_get ys) s ∙ e
get_right (x ∷ xs) ys i zero a same e = absurd (omega (arith, same))
get_right (x ∷ xs) ys i (suc n) a same e = get_right xs ys i n a (omega (arith, same)) e

-- what stands in two lists stands in one of them
get_either : {A : Type 0} (xs ys : List A) (i : ℕ) (a : A) → slice_get (xs ++ ys) i ≡ Some a
    → (slice_get xs i ≡ Some a) ⊎ ((j : ℕ) × (i ≡ length xs + j) × (slice_get ys j ≡ Some a))
get_either [] ys i a e = inr (i, omega arith, e)
get_either (x ∷ xs) ys zero a e = inl e
get_either (x ∷ xs) ys (suc i) a e = elim (get_either xs ys i a e) [
  | inl h ↦ inl h
  | inr h ↦ let k = h.1 in inr (h.0, omega (arith, k), h.2)
]

-- ROWS

-- the row is that of an init, or of the leaf at this place
abbrev pub IsKind : NodeRow → List ℕ → ℕ → Type 0
IsKind r places n = (r.leaf ≡ None) ⊎ ((z : ℕ) × (slice_get places z ≡ Some n))

later_kind : (r : NodeRow) (p : ℕ) (places : List ℕ) (n : ℕ) → IsKind r places n → IsKind r (p ∷ places) n
later_kind r p places n (inl h) = inl h
later_kind r p places n (inr h) = inr (suc h.0, h.1)

left_kind : (r : NodeRow) (ps qs : List ℕ) (n : ℕ) → IsKind r ps n → IsKind r (ps ++ qs) n
left_kind r ps qs n (inl h) = inl h
left_kind r ps qs n (inr h) = inr (h.0, get_left ps qs h.0 n h.1)

right_kind : (r : NodeRow) (ps qs : List ℕ) (n : ℕ) → IsKind r qs n → IsKind r (ps ++ qs) n
right_kind r ps qs n (inl h) = inl h
right_kind r ps qs n (inr h) = inr (length ps + h.0, get_right ps qs h.0 (length ps + h.0) n refl h.1)

same_kind : (r : NodeRow) (ps qs : List ℕ) (n m : ℕ) → ps ≡ qs → n ≡ m → IsKind r ps n → IsKind r qs m
same_kind r ps qs n m e f (inl h) = inl h
same_kind r ps qs n m e f (inr h) = inr (h.0, ap (λ l. slice_get l h.0) (sym e) ∙ (h.1 ∙ ap (λ (k : ℕ). Some k) f))

kind_at : (label : List ℕ) (parent n x : ℕ) (nodes : Nodes) (k : ℕ) (r : NodeRow) → slice_get (rows_of label parent n x nodes) k ≡ Some r
    → IsKind r (leaf_places n nodes) (n + k)
kind_at label parent n x End k r e = absurd (none_some e)
kind_at label parent n x (Leaf_node node rest) zero r e = inr (0, ap (λ (m : ℕ). Some m) (omega arith))
kind_at label parent n x (Leaf_node node rest) (suc k) r e =
    same_kind r (n ∷ leaf_places (n + 1) rest) (n ∷ leaf_places (n + 1) rest) (n + 1 + k) (n + suc k) refl (omega arith)
    (later_kind r n (leaf_places (n + 1) rest) (n + 1 + k) (kind_at label parent (n + 1) (x + 1) rest k r e))
kind_at label parent n x (Init_node node children rest) zero r e = inl (sym (ap (λ (y : NodeRow). y.leaf) (some_same e)))
kind_at label parent n x (Init_node node children rest) (suc k) r e =
    let inner = rows_of (below label node.name) n (n + 1) x children in
    let later = rows_of label parent (n + 1 + node_count children) (x + leaf_count children) rest in
    let ps = leaf_places (n + 1) children in
    let qs = leaf_places (n + (1 + node_count children)) rest in
    let here = λ (h : slice_get inner k ≡ Some r).
    same_kind r (ps ++ qs) (ps ++ qs) (n + 1 + k) (n + suc k) refl (omega arith)
    (left_kind r ps qs (n + 1 + k) (kind_at (below label node.name) n (n + 1) x children k r h)) in
    let there = λ (j : ℕ) (f : k ≡ length inner + j) (h : slice_get later j ≡ Some r).
    let long = length-rows_of (below label node.name) n (n + 1) x children in
    let start : n + 1 + node_count children ≡ n + (1 + node_count children) = omega arith in
    right_kind r ps qs (n + suc k)
    (same_kind r (leaf_places (n + 1 + node_count children) rest) qs (n + 1 + node_count children + j) (n + suc k) (ap (λ m. leaf_places m rest) start)
    (omega (arith, f, long)) (kind_at label parent (n + 1 + node_count children) (x + leaf_count children) rest j r h)) in
    elim (get_either inner later k r e) [
      | inl h ↦ here h
      | inr h ↦ there h.0 h.1 h.2
    ]

pub row_kind : (s : Scenario) (k : ℕ) (r : NodeRow) → slice_get (node_rows s) k ≡ Some r → IsKind r (leaf_places 1 s.nodes) k
row_kind s zero r e = inl (sym (ap (λ (y : NodeRow). y.leaf) (some_same e)))
row_kind s (suc k) r e =
    same_kind r (leaf_places 1 s.nodes) (leaf_places 1 s.nodes) (1 + k) (suc k) refl (omega arith) (kind_at (codes "init") 0 1 0 s.nodes k r e)

-- THE ROWS OF LEAVES

-- the row n of these, the first of which has the number m, is a leaf's
pub record IsLeafRow (rows : List NodeRow) (m n : ℕ) : Type 0 where
  pub at : ℕ
  pub is : n ≡ m + at
  pub row : NodeRow
  pub there : slice_get rows at ≡ Some row
  pub leaf : ℕ
  pub names : row.leaf ≡ Some leaf

leaf_row_at : (label : List ℕ) (parent n x : ℕ) (nodes : Nodes) (z p : ℕ) → slice_get (leaf_places n nodes) z ≡ Some p
    → IsLeafRow (rows_of label parent n x nodes) n p
leaf_row_at label parent n x End z p e = absurd (none_some e)
leaf_row_at label parent n x (Leaf_node node rest) zero p e =
    let same : n ≡ p = some_same e in
    record { at = 0; is = omega (arith, same); row = leaf_node (below label node.name) parent x node.quantum; there = refl; leaf = x; names = refl }
leaf_row_at label parent n x (Leaf_node node rest) (suc z) p e =
    let h = leaf_row_at label parent (n + 1) (x + 1) rest z p e in
    let is = h.is in record { at = suc h.at; is = omega (arith, is); row = h.row; there = h.there; leaf = h.leaf; names = h.names }
leaf_row_at label parent n x (Init_node node children rest) z p e =
    let inner = rows_of (below label node.name) n (n + 1) x children in
    let later = rows_of label parent (n + 1 + node_count children) (x + leaf_count children) rest in
    let ps = leaf_places (n + 1) children in
    let qs = leaf_places (n + (1 + node_count children)) rest in
    let whole = init_node (below label node.name) (Some parent) node.quantum ∷ (inner ++ later) in
    let here = λ (f : slice_get ps z ≡ Some p).
    let h = leaf_row_at (below label node.name) n (n + 1) x children z p f in
    let is = h.is in
    let found : IsLeafRow whole n p =
    record { at = suc h.at; is = omega (arith, is); row = h.row; there = get_left inner later h.at h.row h.there; leaf = h.leaf; names = h.names } in found in
    let there = λ (j : ℕ) (f : slice_get qs j ≡ Some p).
    let start : n + (1 + node_count children) ≡ n + 1 + node_count children = omega arith in
    let h =
    leaf_row_at label parent (n + 1 + node_count children) (x + leaf_count children) rest j p (ap (λ m. slice_get (leaf_places m rest) j) (sym start) ∙ f) in
    let is = h.is in
    let long = length-rows_of (below label node.name) n (n + 1) x children in
    let found : IsLeafRow whole n p = record {
      at = suc (length inner + h.at);
      is = omega (arith, is, long);
      row = h.row;
      there = get_right inner later h.at (length inner + h.at) h.row refl h.there;
      leaf = h.leaf;
      names = h.names;
    } in found in
    elim (get_either ps qs z p e) [
      | inl f ↦ here f
      | inr f ↦ there f.0 f.2
    ]

-- the row of a leaf's node is no init's
pub leaf_no_init : (s : Scenario) (z p : ℕ) (r : NodeRow) → slice_get (leaf_places 1 s.nodes) z ≡ Some p → slice_get (node_rows s) p ≡ Some r
    → r.leaf ≡ None → ⊥
leaf_no_init s z p r e there none =
    let h = leaf_row_at (codes "init") 0 1 0 s.nodes z p e in
    let is : p ≡ suc h.at = h.is ∙ omega arith in
    let same : r ≡ h.row = some_same (sym there ∙ (ap (slice_get (node_rows s)) is ∙ h.there)) in
    none_some (sym none ∙ (ap (λ (y : NodeRow). y.leaf) same ∙ h.names))
