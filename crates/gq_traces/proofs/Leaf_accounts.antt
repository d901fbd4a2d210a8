-- The account of a leaf, by the place of its node.
use Rattle.std.proofs.Common.{◌≡◌, ◌∙◌, ◌<◌, ◌+◌, ◌⊎◌, ℕ, zero, suc, inl, inr, cond, List, [], ◌∷◌, ◌++◌, length, codes, Option, Some}
use Rattle.std.proofs.Common.{IfSome, refl, ap, sym, subst, arith}
use Rattle.std.specs.Prelude.{slice_get, slice_index, true}
use Rattle.gq_model.specs.machine.Accounts.{Account, accounts, leaf_account, leaf_count}
use Rattle.gq_model.specs.machine.Amounts.{Ram, Caps, counts_caps}
use Rattle.gq_model.specs.machine.Scenario.{Component, Nodes, End, Leaf_node, Init_node, Scenario, below, components, system}
use Rattle.gq_model.specs.machine.Sums.{quota}
use Rattle.gq_model.specs.machine.World.{Leaf, World}
use Rattle.gq_model.proofs.Small_facts.{none_some, some_same}
use Rattle.gq_resolve.specs.NodeTables.{NodeRow, leaf_node, node_rows, rows_of}
use Rattle.gq_resolve.proofs.Node_table_rows.{length-leaf_places, length-rows_of}
use Rattle.gq_scenario.specs.Sizes.{leaf_places, node_count}
use Rattle.gq_world.specs.Account_lines.{accounts_by}
use Rattle.gq_world.proofs.World_account_lines.{AccountAt, Reports, account_at_node}
use Rattle.gq_traces.specs.Account_peaks.{quota_in, quota_of}
use Rattle.gq_traces.proofs.Leaves_standing.{from_some}
use Rattle.gq_traces.proofs.One_else.{in_both}

-- a row of these, from the n-th node on, is at place p, and is that of this leaf
record HasRow (rows : List NodeRow) (n p x : ℕ) : Type 0 where
  k : ℕ
  place : p ≡ n + k
  row : NodeRow
  there : slice_get rows k ≡ Some row
  leaf : row.leaf ≡ Some x

left_of : {A : Type 0} (xs ys : List A) (k : ℕ) (a : A) → slice_get xs k ≡ Some a → slice_get (xs ++ ys) k ≡ Some a
left_of [] ys k a e = absurd (none_some e)
left_of (x ∷ xs) ys zero a e = e
left_of (x ∷ xs) ys (suc k) a e = left_of xs ys k a e

right_of : {A : Type 0} (xs ys : List A) (k : ℕ) → slice_get (xs ++ ys) (length xs + k) ≡ slice_get ys k
right_of [] ys k = let none : 0 + k ≡ k = omega arith in ap (slice_get ys) none
right_of (x ∷ xs) ys k =
    let next : suc (length xs) + k ≡ suc (length xs + k) = omega arith in ap (slice_get (x ∷ xs ++ ys)) next ∙ right_of xs ys k

find : (nodes : Nodes) (label : List ℕ) (parent n x j p : ℕ) → slice_get (leaf_places n nodes) j ≡ Some p
    → HasRow (rows_of label parent n x nodes) n p (x + j)
find End label parent n x j p e = absurd (none_some e)
find (Leaf_node node rest) label parent n x zero p e =
    let first : n ≡ p = some_same e in
    let same : x ≡ x + 0 = omega arith in
    record { k = 0; place = omega (arith, first); row = leaf_node (below label node.name) parent x node.quantum; there = refl; leaf = ap Some same }
find (Leaf_node node rest) label parent n x (suc j) p e =
    let f = find rest label parent (n + 1) (x + 1) j p e in
    let place = f.place in
    let same : x + 1 + j ≡ x + suc j = omega arith in
    record { k = suc f.k; place = omega (arith, place); row = f.row; there = f.there; leaf = f.leaf ∙ ap Some same }
find (Init_node node children rest) label parent n x j p e =
    let start : n + (1 + node_count children) ≡ n + 1 + node_count children = omega arith in
    by (λ there. find children (below label node.name) n (n + 1) x j p there)
    (λ i there. find rest label parent (n + 1 + node_count children) (x + leaf_count children) i p
    (subst (λ m. slice_get (leaf_places m rest) i ≡ Some p) start there))
    (in_both (leaf_places (n + 1) children) (leaf_places (n + (1 + node_count children)) rest) j p e)
  where
    by : (slice_get (leaf_places (n + 1) children) j ≡ Some p → HasRow (rows_of (below label node.name) n (n + 1) x children) (n + 1) p (x + j))
        → ((i : ℕ) → slice_get (leaf_places (n + (1 + node_count children)) rest) i ≡ Some p
        → HasRow (rows_of label parent (n + 1 + node_count children) (x + leaf_count children) rest) (n + 1 + node_count children) p (x + leaf_count children
        + i))
        → ((slice_get (leaf_places (n + 1) children) j ≡ Some p) × (j < length (leaf_places (n + 1) children)))
        ⊎ ((i : ℕ) × (j ≡ length (leaf_places (n + 1) children) + i) × (slice_get (leaf_places (n + (1 + node_count children)) rest) i ≡ Some p))
        → HasRow (rows_of label parent n x (Init_node node children rest)) n p (x + j)
    by among behind (inl t) =
        let inner = rows_of (below label node.name) n (n + 1) x children in
        let later = rows_of label parent (n + 1 + node_count children) (x + leaf_count children) rest in
        let f = among t.0 in
        let place = f.place in
        record { k = suc f.k; place = omega (arith, place); row = f.row; there = left_of inner later f.k f.row f.there; leaf = f.leaf }
    by among behind (inr t) =
        let inner = rows_of (below label node.name) n (n + 1) x children in
        let later = rows_of label parent (n + 1 + node_count children) (x + leaf_count children) rest in
        let f = behind t.0 t.2 in
        let place = f.place in
        let long = length-rows_of (below label node.name) n (n + 1) x children in
        let count = length-leaf_places (n + 1) children in
        let far = t.1 in
        let same : x + leaf_count children + t.0 ≡ x + j = omega (arith, far, count) in
        record {
          k = suc (length inner + f.k);
          place = omega (arith, place, long);
          row = f.row;
          there = right_of inner later f.k ∙ f.there;
          leaf = f.leaf ∙ ap Some same;
        }

-- that of a leaf is its own
leaf_row : (s : Scenario) (x p : ℕ) → slice_get (leaf_places 1 s.nodes) x ≡ Some p
    → (row : NodeRow) × (slice_get (node_rows s) p ≡ Some row) × (row.leaf ≡ Some x)
leaf_row s x p e =
    let f = find s.nodes (codes "init") 0 1 0 x p e in
    let place : p ≡ suc f.k = (let at = f.place in omega (arith, at)) in
    let same : 0 + x ≡ x = omega arith in
    (f.row, ap (slice_get (node_rows s)) place ∙ f.there, f.leaf ∙ ap Some same)

-- the quota in the account at the node of a leaf is that of the leaf
module _ (s : Scenario) (w : World) (count : length w.leaves ≡ length (components s)) (x p : ℕ) (at : slice_get (leaf_places 1 s.nodes) x ≡ Some p)
    (less : p < length (node_rows s)) where
  record OfLeaf : Type 0 where
    account : Account
    there : slice_get (accounts s w []) p ≡ Some account
    component : Component
    leaf : Leaf
    has : slice_get (components s) x ≡ Some component
    stands : slice_get w.leaves x ≡ Some leaf
    is : account ≡ leaf_account s.version w x component leaf (slice_index [] x)

  of_leaf : OfLeaf
  unfolding accounts_by
  of_leaf =
      let a = account_at_node s w [] count p less in
      let r = leaf_row s x p at in
      let own : a.row.leaf ≡ Some x = ap (λ (q : NodeRow). q.leaf) (some_same (sym a.row_there ∙ r.1)) ∙ r.2 in
      let t = by a own in
      record { account = a.account; there = a.account_there; component = t.0; leaf = t.1; has = t.2; stands = t.3; is = t.4 }
    where
      by : (a : AccountAt s w [] (node_rows s) (accounts_by s w []) p) → a.row.leaf ≡ Some x
          → (c : Component) × (leaf : Leaf) × (slice_get (components s) x ≡ Some c) × (slice_get w.leaves x ≡ Some leaf)
          × (a.account ≡ leaf_account s.version w x c leaf (slice_index [] x))
      by a own = subst (λ (o : Option ℕ). Reports s w [] o a.account) own a.is.reports

  pub ram_is : (q : ℕ) → IfSome (slice_get (accounts s w []) p) (λ a. q ≡ a.quota.ram) → q ≡ quota_in (system s) Ram x w
  ram_is q h =
      let o = of_leaf in
      from_some (slice_get (accounts s w []) p) (λ (a : Account). q ≡ a.quota.ram) o.account o.there h ∙ (ap (λ (a : Account). a.quota.ram) o.is
      ∙ sym (λ i. quota_of Ram w x (o.has i) (o.stands i)))

  pub caps_is : (q : ℕ) → counts_caps s.version ≡ true → IfSome (slice_get (accounts s w []) p) (λ a. q ≡ a.quota.caps) → q ≡ quota_in (system s) Caps x w
  caps_is q two h =
      let o = of_leaf in
      from_some (slice_get (accounts s w []) p) (λ (a : Account). q ≡ a.quota.caps) o.account o.there h ∙ (ap (λ (a : Account). a.quota.caps) o.is
      ∙ (ap (λ b. cond b (quota Caps w x o.component o.leaf) 0) two ∙ sym (λ i. quota_of Caps w x (o.has i) (o.stands i))))
