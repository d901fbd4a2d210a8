-- The accounts of the definition, by the rows of the nodes.
use Rattle.std.proofs.Common.{◌≡◌, ℕ, zero, suc, ◌+◌, ◌<◌, ◌≤◌, ◌⊎◌, inl, inr, List, [], ◌∷◌, ◌++◌, length, Some, None, codes}
use Rattle.std.proofs.Common.{refl, ap, sym, ◌∙◌, arith, length-append}
use Rattle.std.specs.Prelude.{slice_get, slice_index}
use Rattle.gq_model.specs.machine.Accounts.{Account, accounts, account_at, amount_in, init_quota, leaf_account, leaf_count, node_accounts, spent}
use Rattle.gq_model.specs.machine.Amounts.{Resource, Ram, Caps}
use Rattle.gq_model.specs.machine.Scenario.{Nodes, End, Leaf_node, Init_node, Scenario, System, system, Component, below}
use Rattle.gq_model.specs.machine.Sums.{quota}
use Rattle.gq_model.specs.machine.World.{Leaf, World}
use Rattle.gq_model.proofs.Small_facts.{some_same, none_some}
use Rattle.gq_scenario.specs.Sizes.{node_count}
use Rattle.gq_resolve.specs.NodeTables.{NodeRow, rows_of, node_rows}
use Rattle.gq_resolve.proofs.Node_table_rows.{length-rows_of}
use Rattle.gq_laws.proofs.quota_payment.Leaf_component_positions.{get_left, get_right}
use Rattle.gq_prepared.proofs.Joined_lists.{in_both}
use Rattle.gq_prepared.proofs.Handed_quota_sums.{all_spent, each_spent, length-each_spent}

module _ (version : ℕ) (own : System) (w : World) (reported : List ℕ) where
  -- the account of a leaf that is there
  pub record LeafReported (row : NodeRow) (a : Account) : Type 0 where
    pub number : ℕ
    pub component : Component
    pub leaf : Leaf
    pub is : row.leaf ≡ Some number
    pub known : slice_get own.components number ≡ Some component
    pub there : slice_get w.leaves number ≡ Some leaf
    pub quotas : a.quota ≡ amount_in version (quota Ram w number component leaf) (quota Caps w number component leaf)

  -- the account of an init, which is the k-th of those with these numbers
  pub record InitReported (row : NodeRow) (a : Account) (numbers : Resource → List ℕ) (k : ℕ) : Type 0 where
    pub first : ℕ
    pub children : Nodes
    pub is : row.leaf ≡ None
    pub quotas : a.quota ≡ amount_in version (init_quota Ram w first row.quantum children) (init_quota Caps w first row.quantum children)
    pub handed : (r : Resource) → slice_get (numbers r) k ≡ Some (spent r w first children)

  -- each of the first leaves is there
  abbrev pub AreThere : ℕ → Type 0
  AreThere total = (x : ℕ) → x < total
      → (c : Component) × (leaf : Leaf) × (slice_get own.components x ≡ Some c) × (slice_get w.leaves x ≡ Some leaf)

  one_account : (total x : ℕ) → AreThere total → x < total
      → (c : Component) × (leaf : Leaf) × (slice_get own.components x ≡ Some c) × (slice_get w.leaves x ≡ Some leaf)
      × (account_at version w x (slice_get own.components x) (slice_get w.leaves x) (slice_index reported x)
      ≡ leaf_account version w x c leaf (slice_index reported x) ∷ [])
  one_account total x all less =
      let t = all x less in (t.0, t.1, t.2, t.3, (λ i. account_at version w x (t.2 i) (t.3 i) (slice_index reported x)))

  length-accounts : (label : List ℕ) (total x : ℕ) (nodes : Nodes) → AreThere total → x + leaf_count nodes ≤ total
      → length (node_accounts version own w reported x label nodes) ≡ node_count nodes
  length-accounts label total x End all within = refl
  length-accounts label total x (Leaf_node node rest) all within =
      let one = (one_account total x all (omega (arith, within))).4 in
      let later = length-accounts label total (suc x) rest all (omega (arith, within)) in
      let same = ap (λ l. length (l ++ node_accounts version own w reported (suc x) label rest)) one in
      omega (arith, later, same)
  length-accounts label total x (Init_node node children rest) all within =
      let inner = length-accounts (below label node.name) total x children all (omega (arith, within)) in
      let later = length-accounts label total (x + leaf_count children) rest all (omega (arith, within)) in
      let both = length-append (node_accounts version own w reported x (below label node.name) children)
      (node_accounts version own w reported (x + leaf_count children) label rest) in
      omega (arith, inner, later, both)

  reported_at : (label : List ℕ) (parent n total x : ℕ) (nodes : Nodes) → AreThere total → x + leaf_count nodes ≤ total → (k : ℕ) (row : NodeRow) (a : Account)
      → slice_get (rows_of label parent n x nodes) k ≡ Some row → slice_get (node_accounts version own w reported x label nodes) k ≡ Some a
      → InitReported row a (λ r. each_spent r w x nodes) k ⊎ LeafReported row a
  reported_at label parent n total x End all within k row a e f = absurd (none_some e)
  reported_at label parent n total x (Leaf_node node rest) all within k row a e f =
      let one = one_account total x all (omega (arith, within)) in
      let g = ap (λ l. slice_get (l ++ node_accounts version own w reported (suc x) label rest) k) (sym one.4) ∙ f in
      by one.0 one.1 one.2 one.3 k e g
      (λ j h i. reported_at label parent (n + 1) total (suc x) rest all (omega (arith, within)) j row a h i)
    where
      next : x + 1 ≡ suc x
      next = omega arith

      by : (c : Component) (leaf : Leaf) → slice_get own.components x ≡ Some c → slice_get w.leaves x ≡ Some leaf → (k : ℕ)
          → slice_get (rows_of label parent n x (Leaf_node node rest)) k ≡ Some row
          → slice_get (leaf_account version w x c leaf (slice_index reported x) ∷ node_accounts version own w reported (suc x) label rest) k ≡ Some a
          → ((j : ℕ) → slice_get (rows_of label parent (n + 1) (suc x) rest) j ≡ Some row
          → slice_get (node_accounts version own w reported (suc x) label rest) j ≡ Some a
          → InitReported row a (λ r. each_spent r w (suc x) rest) j ⊎ LeafReported row a)
          → InitReported row a (λ r. each_spent r w x (Leaf_node node rest)) k ⊎ LeafReported row a
      by c leaf known there zero e g further = inr (record {
        number = x;
        component = c;
        leaf = leaf;
        is = ap (λ (r : NodeRow). r.leaf) (sym (some_same e));
        known = known;
        there = there;
        quotas = ap (λ (a : Account). a.quota) (sym (some_same g));
      })
      by c leaf known there (suc j) e g further =
          elim (further j (ap (λ y. slice_get (rows_of label parent (n + 1) y rest) j) (sym next) ∙ e) g) [
            | inl t ↦ inl (record { first = t.first; children = t.children; is = t.is; quotas = t.quotas; handed = t.handed })
            | inr t ↦ inr t
          ]
  reported_at label parent n total x (Init_node node children rest) all within zero row a e f = inl (record {
    first = x;
    children = children;
    is = ap (λ (r : NodeRow). r.leaf) (sym (some_same e));
    quotas = ap (λ (a : Account). a.quota) (sym (some_same f))
        ∙ ap (λ (r : NodeRow). amount_in version (init_quota Ram w x r.quantum children) (init_quota Caps w x r.quantum children)) (some_same e);
    handed = λ r. refl;
  })
  reported_at label parent n total x (Init_node node children rest) all within (suc k) row a e f =
      let inner = rows_of (below label node.name) n (n + 1) x children in
      let later = rows_of label parent (n + 1 + node_count children) (x + leaf_count children) rest in
      let inner_accounts = node_accounts version own w reported x (below label node.name) children in
      let later_accounts = node_accounts version own w reported (x + leaf_count children) label rest in
      let counted = length-rows_of (below label node.name) n (n + 1) x children in
      let many = length-accounts (below label node.name) total x children all (omega (arith, within)) in
      elim (in_both inner later inner_accounts later_accounts k row a (omega (arith, counted, many)) e f) [
        | inl t ↦
            elim (reported_at (below label node.name) n (n + 1) total x children all (omega (arith, within)) k row a t.0 t.1) [
              | inl i ↦
                  inl (record {
                    first = i.first;
                    children = i.children;
                    is = i.is;
                    quotas = i.quotas;
                    handed = λ r. get_left (each_spent r w x children) (each_spent r w (x + leaf_count children) rest) k _ (i.handed r);
                  })
              | inr i ↦ inr i
            ]
        | inr t ↦
            let past = t.1 in
            elim (reported_at label parent (n + 1 + node_count children) total (x + leaf_count children) rest all (omega (arith, within)) t.0 row a t.2 t.3) [
              | inl i ↦
                  inl (record {
                    first = i.first;
                    children = i.children;
                    is = i.is;
                    quotas = i.quotas;
                    handed = λ r.
                        let long = length-each_spent r w x children in
                        get_right (each_spent r w x children) (each_spent r w (x + leaf_count children) rest) t.0 k _ (omega (arith, past, counted, long))
                        (i.handed r);
                  })
              | inr i ↦ inr i
            ]
      ]

-- each account of a scenario
pub account_reported : (s : Scenario) (w : World) (reported : List ℕ) → AreThere s.version (system s) w reported (leaf_count s.nodes) → (n : ℕ) (row : NodeRow)
    (a : Account)
    → slice_get (node_rows s) n ≡ Some row → slice_get (accounts s w reported) n ≡ Some a
    → InitReported s.version (system s) w reported row a (λ r. all_spent r w s) n ⊎ LeafReported s.version (system s) w reported row a
account_reported s w reported all zero row a e f = inl (record {
  first = 0;
  children = s.nodes;
  is = ap (λ (r : NodeRow). r.leaf) (sym (some_same e));
  quotas = ap (λ (a : Account). a.quota) (sym (some_same f))
      ∙ ap (λ (r : NodeRow). amount_in s.version (init_quota Ram w 0 r.quantum s.nodes) (init_quota Caps w 0 r.quantum s.nodes)) (some_same e);
  handed = λ r. refl;
})
account_reported s w reported all (suc k) row a e f =
    elim (reported_at s.version (system s) w reported (codes "init") 0 1 (leaf_count s.nodes) 0 s.nodes all (omega arith) k row a e f) [
      | inl i ↦ inl (record { first = i.first; children = i.children; is = i.is; quotas = i.quotas; handed = i.handed })
      | inr i ↦ inr i
    ]

pub accounts_count : (s : Scenario) (w : World) (reported : List ℕ) → AreThere s.version (system s) w reported (leaf_count s.nodes)
    → length (accounts s w reported) ≡ length (node_rows s)
accounts_count s w reported all =
    let few = length-accounts s.version (system s) w reported (codes "init") (leaf_count s.nodes) 0 s.nodes all (omega arith) in
    let many = length-rows_of (codes "init") 0 1 0 s.nodes in
    omega (arith, few, many)
