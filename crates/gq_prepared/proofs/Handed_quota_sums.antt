-- What is handed on at each node of a tree of components, as its rows and as the definition have it.
use Rattle.std.proofs.Common.{◌≡◌, ℕ, zero, suc, ◌+◌, ◌<◌, ◌≤◌, inl, inr, List, [], ◌∷◌, ◌++◌, length, map, get_or, Option, Some, None, codes}
use Rattle.std.proofs.Common.{refl, ap, sym, subst, ◌∙◌, arith, length-append}
use Rattle.std.specs.Prelude.{slice_get, nat_eq, if◌then◌else◌}
use Rattle.std.proofs.lemmas.Bool.Decides.{nat_tests}
use Rattle.std.proofs.lemmas.Option.{slice_get_within}
use Rattle.gq_tariff.specs.declared.amount.Amount.{Amount}
use Rattle.gq_ram.specs.Account_table.{no_amount}
use Rattle.gq_model.specs.machine.Accounts.{leaf_count, handed_to, spent as given_on}
use Rattle.gq_model.specs.machine.Amounts.{Resource, part as part_of}
use Rattle.gq_model.specs.machine.Scenario.{Nodes, End, Leaf_node, Init_node, Scenario, below}
use Rattle.gq_model.specs.machine.World.{World}
use Rattle.gq_model.proofs.Small_facts.{some_same, none_some}
use Rattle.gq_scenario.specs.Sizes.{node_count}
use Rattle.gq_resolve.specs.NodeTables.{NodeRow, rows_of, node_rows}
use Rattle.gq_resolve.proofs.Node_table_rows.{length-rows_of}
use Rattle.gq_ram.specs.Account_tree.{Tree}
use Rattle.gq_ram.specs.Handing.{tail, spent_in, spent}
use Rattle.gq_trade.specs.declared.trade_node.NodeState.{NodeState}
use Rattle.gq_trade.specs.Balances.{handed, node_at}
use Rattle.gq_laws.specs.internal.Init_quanta.{AllFit, Fit}
use Rattle.gq_prepared.specs.Account_nodes.{or_zero, parents_of}
use Rattle.gq_prepared.proofs.Joined_lists.{in_append, in_both}

-- the node above a row's
abbrev pub above_of : NodeRow → ℕ
above_of row = or_zero row.parent

counts : (i n : ℕ) → (if nat_eq i i then n else 0) ≡ n
counts i n = grind (arith, nat_tests)

counts_not : (p i n : ℕ) → (p ≡ i → ⊥) → (if nat_eq p i then n else 0) ≡ 0
counts_not p i n ne = grind (arith, nat_tests)

-- BY ROWS

module _ (r : Resource) (w : World) where
  -- what a node is handed in a world: an init its quantum, a leaf its own while it lives
  abbrev pub due : Option ℕ → Amount → ℕ
  due None quantum = part_of r quantum
  due (Some x) quantum = handed_to (slice_get w.leaves x) (part_of r quantum)

  abbrev pub row_due : NodeRow → ℕ
  row_due row = due row.leaf row.quantum

  -- of what these rows are handed, the parts for those right below the node i
  abbrev pub rows_sum : ℕ → List NodeRow → ℕ
  rows_sum i [] = 0
  rows_sum i (row ∷ rows) = (if nat_eq (above_of row) i then row_due row else 0) + rows_sum i rows

  sum_append : (i : ℕ) (xs ys : List NodeRow) → rows_sum i (xs ++ ys) ≡ rows_sum i xs + rows_sum i ys
  sum_append i [] ys = omega arith
  sum_append i (x ∷ xs) ys = let e = sum_append i xs ys in omega (arith, e)

  -- what each of these nodes hands on in that world, in preorder; a leaf hands on nothing
  abbrev pub each_spent : ℕ → Nodes → List ℕ
  each_spent x End = []
  each_spent x (Leaf_node node rest) = 0 ∷ each_spent (suc x) rest
  each_spent x (Init_node node children rest) = given_on r w x children ∷ each_spent x children ++ each_spent (x + leaf_count children) rest

  abbrev pub all_spent : Scenario → List ℕ
  all_spent s = given_on r w 0 s.nodes ∷ each_spent 0 s.nodes

  pub length-each_spent : (x : ℕ) (nodes : Nodes) → length (each_spent x nodes) ≡ node_count nodes
  length-each_spent x End = refl
  length-each_spent x (Leaf_node node rest) = let e = length-each_spent (suc x) rest in omega (arith, e)
  length-each_spent x (Init_node node children rest) =
      let e = length-each_spent x children in
      let f = length-each_spent (x + leaf_count children) rest in
      let both = length-append (each_spent x children) (each_spent (x + leaf_count children) rest) in
      omega (arith, e, f, both)

  -- no row is right below a node that is not among these, nor that right above them
  outside : (label : List ℕ) (parent n x i : ℕ) (nodes : Nodes) → (parent ≡ i → ⊥) → (n ≤ i → n + node_count nodes ≤ i)
      → rows_sum i (rows_of label parent n x nodes) ≡ 0
  outside label parent n x i End ne past = refl
  outside label parent n x i (Leaf_node node rest) ne past =
      let here = counts_not parent i (due (Some x) node.quantum) ne in
      let later = outside label parent (n + 1) (x + 1) i rest ne (λ h. omega (arith, past (omega (arith, h)))) in
      omega (arith, here, later)
  outside label parent n x i (Init_node node children rest) ne past =
      let here = counts_not parent i (due None node.quantum) ne in
      let inner = outside (below label node.name) n (n + 1) x i children (λ e. omega (arith, e, past (omega (arith, e))))
      (λ h. omega (arith, past (omega (arith, h)))) in
      let later = outside label parent (n + 1 + node_count children) (x + leaf_count children) i rest ne (λ h. omega (arith, past (omega (arith, h)))) in
      let both = sum_append i (rows_of (below label node.name) n (n + 1) x children)
      (rows_of label parent (n + 1 + node_count children) (x + leaf_count children) rest) in
      omega (arith, here, inner, later, both)

  -- those right below the node above these
  right_below : (label : List ℕ) (parent n x : ℕ) (nodes : Nodes) → parent < n → rows_sum parent (rows_of label parent n x nodes) ≡ given_on r w x nodes
  right_below label parent n x End less = refl
  right_below label parent n x (Leaf_node node rest) less =
      let here = counts parent (due (Some x) node.quantum) in
      let later = right_below label parent (n + 1) (x + 1) rest (omega (arith, less)) in
      let next : x + 1 ≡ suc x = omega arith in
      let same = ap (λ y. given_on r w y rest) next in
      omega (arith, here, later, same)
  right_below label parent n x (Init_node node children rest) less =
      let here = counts parent (due None node.quantum) in
      let inner = outside (below label node.name) n (n + 1) x parent children (λ e. omega (arith, e, less)) (λ h. absurd (omega (arith, h, less))) in
      let later = right_below label parent (n + 1 + node_count children) (x + leaf_count children) rest (omega (arith, less)) in
      let both = sum_append parent (rows_of (below label node.name) n (n + 1) x children)
      (rows_of label parent (n + 1 + node_count children) (x + leaf_count children) rest) in
      omega (arith, here, inner, later, both)

  -- those right below one of these
  inside : (label : List ℕ) (parent n x : ℕ) (nodes : Nodes) (k m i : ℕ) → parent < n → slice_get (each_spent x nodes) k ≡ Some m → i ≡ n + k
      → rows_sum i (rows_of label parent n x nodes) ≡ m
  inside label parent n x End k m i less e at = absurd (none_some e)
  inside label parent n x (Leaf_node node rest) zero m i less e at =
      let here = counts_not parent i (due (Some x) node.quantum) (λ f. omega (arith, f, less, at)) in
      let later = outside label parent (n + 1) (x + 1) i rest (λ f. omega (arith, f, less, at)) (λ h. absurd (omega (arith, h, at))) in
      let none = some_same e in
      omega (arith, here, later, none)
  inside label parent n x (Leaf_node node rest) (suc k) m i less e at =
      let here = counts_not parent i (due (Some x) node.quantum) (λ f. omega (arith, f, less, at)) in
      let next : x + 1 ≡ suc x = omega arith in
      let later = inside label parent (n + 1) (x + 1) rest k m i (omega (arith, less)) (ap (λ y. slice_get (each_spent y rest) k) next ∙ e)
      (omega (arith, at)) in
      omega (arith, here, later)
  inside label parent n x (Init_node node children rest) zero m i less e at =
      let here = counts_not parent i (due None node.quantum) (λ f. omega (arith, f, less, at)) in
      let place : i ≡ n = omega (arith, at) in
      let inner : rows_sum i (rows_of (below label node.name) n (n + 1) x children) ≡ given_on r w x children =
      ap (λ j. rows_sum j (rows_of (below label node.name) n (n + 1) x children)) place
      ∙ right_below (below label node.name) n (n + 1) x children (omega arith) in
      let later = outside label parent (n + 1 + node_count children) (x + leaf_count children) i rest (λ f. omega (arith, f, less, at))
      (λ h. absurd (omega (arith, h, at))) in
      let both = sum_append i (rows_of (below label node.name) n (n + 1) x children)
      (rows_of label parent (n + 1 + node_count children) (x + leaf_count children) rest) in
      let same = some_same e in
      omega (arith, here, inner, later, both, same)
  inside label parent n x (Init_node node children rest) (suc k) m i less e at =
      let here = counts_not parent i (due None node.quantum) (λ f. omega (arith, f, less, at)) in
      let both = sum_append i (rows_of (below label node.name) n (n + 1) x children)
      (rows_of label parent (n + 1 + node_count children) (x + leaf_count children) rest) in
      let long = length-each_spent x children in
      elim (in_append (each_spent x children) (each_spent (x + leaf_count children) rest) k m e) [
        | inl f ↦
            let within = slice_get_within (each_spent x children) k m f in
            let inner = inside (below label node.name) n (n + 1) x children k m i (omega arith) f (omega (arith, at)) in
            let later = outside label parent (n + 1 + node_count children) (x + leaf_count children) i rest (λ f. omega (arith, f, less, at))
            (λ h. absurd (omega (arith, h, at, within, long))) in
            omega (arith, here, inner, later, both)
        | inr u ↦
            let past = u.1 in
            let inner = outside (below label node.name) n (n + 1) x i children (λ f. omega (arith, f, at)) (λ h. omega (arith, at, past, long)) in
            let later = inside label parent (n + 1 + node_count children) (x + leaf_count children) rest u.0 m i (omega (arith, less)) u.2
            (omega (arith, at, past, long)) in
            omega (arith, here, inner, later, both)
      ]

  -- those right below each node of a scenario
  pub sum_at : (s : Scenario) (i m : ℕ) → slice_get (all_spent s) i ≡ Some m → rows_sum i (rows_of (codes "init") 0 1 0 s.nodes) ≡ m
  sum_at s zero m e = right_below (codes "init") 0 1 0 s.nodes (omega arith) ∙ some_same e
  sum_at s (suc k) m e = inside (codes "init") 0 1 0 s.nodes k m (suc k) (omega arith) e (omega arith)

  -- BY NODES

  handed_at : (ns : List NodeState) (i : ℕ) → get_or (map handed ns) i no_amount ≡ handed (node_at ns i)
  handed_at [] i = refl
  handed_at (n ∷ ns) zero = refl
  handed_at (n ∷ ns) (suc i) = handed_at ns i

  sum_of : (f : Amount → ℕ) (i : ℕ) (rows : List NodeRow) (ns : List NodeState) → length ns ≡ length rows
      → ((k : ℕ) (row : NodeRow) → slice_get rows k ≡ Some row → f (handed (node_at ns k)) ≡ row_due row)
      → spent_in f i (map above_of rows) (map handed ns) ≡ rows_sum i rows
  sum_of f i [] [] long each = refl
  sum_of f i [] (n ∷ ns) long each = refl
  sum_of f i (row ∷ rows) [] long each = absurd (omega (arith, long))
  sum_of f i (row ∷ rows) (n ∷ ns) long each =
      let later = sum_of f i rows ns (omega (arith, long)) (λ k row. each (suc k) row) in
      let here = each 0 row refl in
      (λ j. (if nat_eq (above_of row) i then here j else 0) + later j)

  -- what each node of a scenario hands on, where each has been handed what it is due in that world
  pub spent_at : (s : Scenario) (f : Amount → ℕ) (t : Tree) (ns : List NodeState) → t.parents ≡ parents_of s → length ns ≡ length (node_rows s)
      → ((k : ℕ) (row : NodeRow) → slice_get (node_rows s) k ≡ Some row → f (handed (node_at ns k)) ≡ row_due row)
      → (i m : ℕ) → slice_get (all_spent s) i ≡ Some m → spent f t (map handed ns) i ≡ m
  spent_at s f t [] parents long each i m e = absurd (omega (arith, long))
  spent_at s f t (n ∷ ns) parents long each i m e =
      ap (λ ps. spent_in f i (tail ps) (map handed ns)) parents
      ∙ sum_of f i (rows_of (codes "init") 0 1 0 s.nodes) ns (omega (arith, long)) (λ k row. each (suc k) row) ∙ sum_at s i m e

  -- FITTING

  -- where each init has no more handed out than it has, no row spends more than it is due
  row_fits : (label : List ℕ) (parent n x : ℕ) (nodes : Nodes) (k m : ℕ) (row : NodeRow) → AllFit r w x nodes
      → slice_get (each_spent x nodes) k ≡ Some m → slice_get (rows_of label parent n x nodes) k ≡ Some row → m ≤ row_due row
  row_fits label parent n x End k m row fit e f = absurd (none_some e)
  row_fits label parent n x (Leaf_node node rest) zero m row fit e f = let none = some_same e in omega (arith, none)
  row_fits label parent n x (Leaf_node node rest) (suc k) m row fit e f =
      let next : x + 1 ≡ suc x = omega arith in
      row_fits label parent (n + 1) (x + 1) rest k m row (subst (λ y. AllFit r w y rest) (sym next) fit)
      (ap (λ y. slice_get (each_spent y rest) k) next ∙ e) f
  row_fits label parent n x (Init_node node children rest) zero m row fit e f =
      let le = fit.0 in
      let same = some_same e in
      let is = ap row_due (some_same f) in
      omega (arith, le, same, is)
  row_fits label parent n x (Init_node node children rest) (suc k) m row fit e f =
      let inner = rows_of (below label node.name) n (n + 1) x children in
      let later = rows_of label parent (n + 1 + node_count children) (x + leaf_count children) rest in
      let long : length (each_spent x children) ≡ length inner =
      length-each_spent x children ∙ sym (length-rows_of (below label node.name) n (n + 1) x children) in
      elim (in_both inner later (each_spent x children) (each_spent (x + leaf_count children) rest) k row m long f e) [
        | inl t ↦ row_fits (below label node.name) n (n + 1) x children k m row fit.1 t.1 t.0
        | inr t ↦ row_fits label parent (n + 1 + node_count children) (x + leaf_count children) rest t.0 m row fit.2 t.3 t.2
      ]

  pub fits_at : (s : Scenario) (i m : ℕ) (row : NodeRow) → Fit r s w → slice_get (all_spent s) i ≡ Some m → slice_get (node_rows s) i ≡ Some row
      → m ≤ row_due row
  fits_at s zero m row fit e f =
      let le = fit.0 in
      let same = some_same e in
      let is = ap row_due (some_same f) in
      omega (arith, le, same, is)
  fits_at s (suc k) m row fit e f = row_fits (codes "init") 0 1 0 s.nodes k m row fit.1 e f

-- where nothing is handed out, nothing is spent
pub none_spent : (f : Amount → ℕ) (i : ℕ) (ps : List ℕ) (hs : List Amount) → ((k : ℕ) → f (get_or hs k no_amount) ≡ 0) → spent_in f i ps hs ≡ 0
none_spent f i [] hs none = refl
none_spent f i (p ∷ ps) [] none = refl
none_spent f i (p ∷ ps) (a ∷ hs) none =
    let later = none_spent f i ps hs (λ k. none (suc k)) in
    (λ j. (if nat_eq p i then none 0 j else 0) + later j) ∙ counts_none p i
  where
    counts_none : (p i : ℕ) → (if nat_eq p i then 0 else 0) + 0 ≡ 0
    counts_none p i = grind (arith, nat_tests)
