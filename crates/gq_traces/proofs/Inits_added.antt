-- What an init is given, it has or has handed on.
use Rattle.std.proofs.Common.{◌≡◌, ◌≢◌, ◌∙◌, ◌==◌, ℕ, zero, suc, ◌+◌, ◌-◌, ◌<◌, ◌≤◌, ◌⊎◌, inl, inr, Bool, true, false, cond, List, [], ◌∷◌, ◌++◌, length}
use Rattle.std.proofs.Common.{Option}
use Rattle.std.proofs.Common.{Some, None, refl, ap, sym, subst, arith, add-one}
use Rattle.std.specs.Prelude.{◌&&◌, if◌then◌else◌, codes, slice_get, slice_index}
use Rattle.std.proofs.lemmas.Bool.Decides.{nat_tests}
use Rattle.gq_model.proofs.Small_facts.{equal_self, none_some, some_same}
use Rattle.gq_model.specs.declared.phase.Phase.{Phase}
use Rattle.gq_model.specs.declared.phase.Phase.TheVariants.{Pending, Running, Blocked, Serving, Handling, Exited}
use Rattle.gq_model.specs.machine.Accounts.{Account, account_at, amount_in, accounts, handed_to, init_account, init_quota, leaf_account, leaf_count}
use Rattle.gq_model.specs.machine.Accounts.{node_accounts, spent}
use Rattle.gq_model.specs.machine.Amounts.{Amount, Resource, Ram, Caps, part, counts_caps}
use Rattle.gq_model.specs.machine.Scenario.{Component, Nodes, End, Leaf_node, Init_node, Scenario, below, components, system}
use Rattle.gq_model.specs.machine.World.{Leaf, World}
use Rattle.gq_model.specs.Promises.{EachOf}
use Rattle.gq_laws.specs.Stands.{Stands}
use Rattle.gq_laws.specs.internal.Init_quanta.{AllFit}
use Rattle.gq_laws.proofs.quota_payment.Leaf_component_positions.{Placed, all_placed}
use Rattle.gq_laws.proofs.quota_payment.Quota_total.{IsCounted}
use Rattle.gq_resolve.specs.NodeTables.{NodeRow, init_node, leaf_node, node_rows, rows_of}
use Rattle.gq_resolve.proofs.Node_table_rows.{length-rows_of}
use Rattle.gq_scenario.specs.Sizes.{node_count}
use Rattle.gq_world.proofs.World_account_lines.{leaf_there}
use Rattle.gq_traces.specs.Account_state.{Given, Handed, child_items, handed_items, has_quantum, is_at, item, lives}
use Rattle.gq_traces.specs.Made_of.{sum_of}
use Rattle.gq_traces.specs.internal.Item_sums.{InitAdds, InitsAdd}
use Rattle.gq_traces.proofs.Added_up.{sum_both}

module _ (r : Resource) (w : World) where
  -- what the n-th node hands to these
  abbrev hands : ℕ → List NodeRow → ℕ
  hands n rows = sum_of Handed r (handed_items w n rows)

  hands_next : (n : ℕ) (row : NodeRow) (rows : List NodeRow) → hands n (row ∷ rows) ≡ sum_of Handed r (child_items w n row) + hands n rows
  hands_next n row rows = sum_both Handed r (child_items w n row) (handed_items w n rows)

  hands_both : (n : ℕ) (xs ys : List NodeRow) → hands n (xs ++ ys) ≡ hands n xs + hands n ys
  hands_both n [] ys = omega arith
  hands_both n (x ∷ xs) ys =
      let one = hands_next n x (xs ++ ys) in
      let two = hands_next n x xs in
      let more = hands_both n xs ys in omega (arith, one, two, more)

  -- it is given nothing by them
  given_none : (n : ℕ) (rows : List NodeRow) → sum_of Given r (handed_items w n rows) ≡ 0
  given_none n [] = refl
  given_none n (row ∷ rows) =
      let both = sum_both Given r (child_items w n row) (handed_items w n rows) in
      let more = given_none n rows in
      let here = by (is_at n row.parent && has_quantum w row.leaf) in omega (arith, both, more, here)
    where
      by : (b : Bool) → sum_of Given r (if b then item 1 Handed row.quantum (codes " to " ++ row.label) ∷ [] else []) ≡ 0
      by true = refl
      by false = refl

  -- a child is handed its quantum, if it has one
  child_sum : (n : ℕ) (row : NodeRow) (b : Bool) → (is_at n row.parent && has_quantum w row.leaf) ≡ b
      → sum_of Handed r (child_items w n row) ≡ cond b (part r row.quantum) 0
  child_sum n row true e = ap (λ (b : Bool). sum_of Handed r (if b then item 1 Handed row.quantum (codes " to " ++ row.label) ∷ [] else [])) e ∙ omega arith
  child_sum n row false e = ap (λ (b : Bool). sum_of Handed r (if b then item 1 Handed row.quantum (codes " to " ++ row.label) ∷ [] else [])) e

  of_other : (n : ℕ) (row : NodeRow) (parent : ℕ) → row.parent ≡ Some parent → parent ≢ n → sum_of Handed r (child_items w n row) ≡ 0
  of_other n row parent e other =
      let differs : (parent == n) ≡ false = grind (arith, nat_tests) in
      child_sum n row false (ap (λ o. is_at n o && has_quantum w row.leaf) e ∙ ap (λ (b : Bool). b && has_quantum w row.leaf) differs)

  -- who is no parent of nodes has handed them nothing
  outside : (label : List ℕ) (parent m x : ℕ) (nodes : Nodes) (n : ℕ) → parent ≢ n → (n < m) ⊎ (m + node_count nodes ≤ n)
      → hands n (rows_of label parent m x nodes) ≡ 0
  outside label parent m x End n other far = refl
  outside label parent m x (Leaf_node node rest) n other far =
      let row = leaf_node (below label node.name) parent x node.quantum in
      let later = rows_of label parent (m + 1) (x + 1) rest in
      let next = hands_next n row later in
      let here = of_other n row parent refl other in
      let more = outside label parent (m + 1) (x + 1) rest n other (elim far [ inl f ↦ inl (omega (arith, f)) | inr f ↦ inr (omega (arith, f)) ]) in
      omega (arith, next, here, more)
  outside label parent m x (Init_node node children rest) n other far =
      let row = init_node (below label node.name) (Some parent) node.quantum in
      let inner = rows_of (below label node.name) m (m + 1) x children in
      let later = rows_of label parent (m + 1 + node_count children) (x + leaf_count children) rest in
      let next = hands_next n row (inner ++ later) in
      let both = hands_both n inner later in
      let here = of_other n row parent refl other in
      let under = outside (below label node.name) m (m + 1) x children n (λ e. elim far [ inl f ↦ omega (arith, f, e) | inr f ↦ omega (arith, f, e) ])
      (elim far [ inl f ↦ inl (omega (arith, f)) | inr f ↦ inr (omega (arith, f)) ]) in
      let more = outside label parent (m + 1 + node_count children) (x + leaf_count children) rest n other
      (elim far [ inl f ↦ inl (omega (arith, f)) | inr f ↦ inr (omega (arith, f)) ]) in
      omega (arith, next, both, here, under, more)

  -- a leaf is handed its quantum while it lives
  leaf_handed : (o : Option Leaf) (q : ℕ) → cond (lives o) q 0 ≡ handed_to o q
  leaf_handed None q = refl
  leaf_handed (Some leaf) q = by leaf.phase refl
    where
      by : (phase : Phase) → leaf.phase ≡ phase → cond (lives (Some leaf)) q 0 ≡ handed_to (Some leaf) q
      by Pending e = rw e refl
      by Running e = rw e refl
      by Blocked e = rw e refl
      by Serving e = rw e refl
      by Handling e = rw e refl
      by Exited e = rw e refl

  -- their parent has handed them what it has spent
  direct : (label : List ℕ) (n m x : ℕ) (nodes : Nodes) → n < m → hands n (rows_of label n m x nodes) ≡ spent r w x nodes
  direct label n m x End less = refl
  direct label n m x (Leaf_node node rest) less =
      let row = leaf_node (below label node.name) n x node.quantum in
      let next = hands_next n row (rows_of label n (m + 1) (x + 1) rest) in
      let here = child_sum n row (lives (slice_get w.leaves x)) (ap (λ (b : Bool). b && lives (slice_get w.leaves x)) (equal_self n)) in
      let handed = leaf_handed (slice_get w.leaves x) (part r node.quantum) in
      let more = direct label n (m + 1) (x + 1) rest (omega (arith, less)) in
      let same = ap (λ k. spent r w k rest) (add-one x) in omega (arith, next, here, handed, more, same)
  direct label n m x (Init_node node children rest) less =
      let row = init_node (below label node.name) (Some n) node.quantum in
      let inner = rows_of (below label node.name) m (m + 1) x children in
      let later = rows_of label n (m + 1 + node_count children) (x + leaf_count children) rest in
      let next = hands_next n row (inner ++ later) in
      let both = hands_both n inner later in
      let here = child_sum n row true (ap (λ (b : Bool). b && true) (equal_self n)) in
      let under = outside (below label node.name) m (m + 1) x children n (λ e. omega (arith, less, e)) (inl (omega (arith, less))) in
      let more = direct label n (m + 1 + node_count children) (x + leaf_count children) rest (omega (arith, less)) in
      omega (arith, next, both, here, under, more)

-- ACCOUNTS

-- of a resource that is counted in this version
pub part_in : (version : ℕ) (r : Resource) → IsCounted version r → (f : Resource → ℕ) → part r (amount_in version (f Ram) (f Caps)) ≡ f r
part_in version Ram h f = refl
part_in version Caps h f = ap (λ b. cond b (f Caps) 0) h

module _ (r : Resource) (s : Scenario) (w : World) (counted : IsCounted s.version r) (reported : List ℕ)
    (there : (x : ℕ) (c : Component) → slice_get (components s) x ≡ Some c → (leaf : Leaf) × (slice_get w.leaves x ≡ Some leaf)) (all : List NodeRow) where
  -- the k-th node, if it is an init, has with what it hands on what it is given
  abbrev Fits : ℕ → NodeRow → Account → Type 0
  Fits k row a = row.leaf ≡ None → part r a.quota + hands r w k all ≡ part r row.quantum

  abbrev Pairs : ℕ → List NodeRow → List Account → Type 0
  Pairs k [] [] = Unit {0}
  Pairs k (row ∷ rows) (a ∷ more) = Fits k row a × Pairs (k + 1) rows more
  Pairs k [] (a ∷ more) = ⊥
  Pairs k (row ∷ rows) [] = ⊥

  pairs_both : (k : ℕ) (xs ys : List NodeRow) (vs ws : List Account) → Pairs k xs vs → Pairs (k + length xs) ys ws → Pairs k (xs ++ ys) (vs ++ ws)
  pairs_both k [] ys [] ws h g = let same : k + 0 ≡ k = omega arith in subst (λ n. Pairs n ys ws) same g
  pairs_both k [] ys (a ∷ vs) ws h g = absurd h
  pairs_both k (x ∷ xs) ys [] ws h g = absurd h
  pairs_both k (x ∷ xs) ys (a ∷ vs) ws h g =
      let same : k + suc (length xs) ≡ k + 1 + length xs = omega arith in
      (h.0, pairs_both (k + 1) xs ys vs ws h.1 (subst (λ n. Pairs n ys ws) same g))

  -- the account of an init whose children have handed so much
  init_fits : (k x : ℕ) (label : List ℕ) (quantum : Amount) (children : Nodes) → spent r w x children ≤ part r quantum
      → hands r w k all ≡ spent r w x children → part r (init_account s.version w x label quantum children).quota + hands r w k all ≡ part r quantum
  init_fits k x label quantum children fits e =
      let quota : part r (init_account s.version w x label quantum children).quota ≡ part r quantum - spent r w x children =
      part_in s.version r counted (λ q. init_quota q w x quantum children) in
      omega (arith, quota, fits, e)

  pairs : (whole : Nodes) (label : List ℕ) (parent m x : ℕ) (nodes : Nodes) → parent < m → Placed (components s) whole x nodes → AllFit r w x nodes
      → ((k : ℕ) → m ≤ k → k < m + node_count nodes → hands r w k all ≡ hands r w k (rows_of label parent m x nodes))
      → Pairs m (rows_of label parent m x nodes) (node_accounts s.version (system s) w reported x label nodes)
  pairs whole label parent m x End less p h same = tt
  pairs whole label parent m x (Leaf_node node rest) less p h same =
      let c = p.0.0 in
      let leaf = there x c p.0.1 in
      let row = leaf_node (below label node.name) parent x node.quantum in
      let account = leaf_account s.version w x c leaf.0 (slice_index reported x) in
      let here : account_at s.version w x (slice_get (components s) x) (slice_get w.leaves x) (slice_index reported x) ≡ account ∷ [] =
      (λ i. account_at s.version w x (p.0.1 i) (leaf.1 i) (slice_index reported x)) in
      let later = rows_of label parent (m + 1) (x + 1) rest in
      let placed = subst (λ y. Placed (components s) whole y rest) (sym (add-one x)) p.1 in
      let fit = subst (λ y. AllFit r w y rest) (sym (add-one x)) h in
      let next = pairs whole label parent (m + 1) (x + 1) rest (omega (arith, less)) placed fit
      (λ k low high. (let all_of = same k (omega (arith, low)) (omega (arith, high)) in
      let one = hands_next r w k row later in
      let none = of_other r w k row parent refl (λ e. omega (arith, less, low, e)) in omega (arith, all_of, one, none))) in
      let next_so = subst (λ y. Pairs (m + 1) later (node_accounts s.version (system s) w reported y label rest)) (add-one x) next in
      let none : Fits m row account = λ e. absurd (none_some (sym e)) in
      subst (λ (l : List Account). Pairs m (row ∷ later) (l ++ node_accounts s.version (system s) w reported (suc x) label rest)) (sym here) (none, next_so)
  pairs whole label parent m x (Init_node node children rest) less p h same =
      let name = below label node.name in
      let row = init_node name (Some parent) node.quantum in
      let inner = rows_of name m (m + 1) x children in
      let later = rows_of label parent (m + 1 + node_count children) (x + leaf_count children) rest in
      let parts : (k : ℕ) → m ≤ k → hands r w k (row ∷ inner ++ later) ≡ hands r w k inner + hands r w k later =
      λ k low. (let next = hands_next r w k row (inner ++ later) in let both = hands_both r w k inner later in
      let none = of_other r w k row parent refl (λ e. omega (arith, less, low, e)) in omega (arith, next, both, none)) in
      let own : Fits m row (init_account s.version w x name node.quantum children) =
      λ e. init_fits m x name node.quantum children h.0 (
      let all_of = same m (omega arith) (omega arith) in
      let split = parts m (omega arith) in
      let mine = direct r w name m (m + 1) x children (omega arith) in
      let none = outside r w label parent (m + 1 + node_count children) (x + leaf_count children) rest m (λ e. omega (arith, less, e)) (inl (omega arith)) in
      omega (arith, all_of, split, mine, none)) in
      let under = pairs children name m (m + 1) x children (omega arith) p.0 h.1
      (λ k low high. (let all_of = same k (omega (arith, low)) (omega (arith, high)) in
      let split = parts k (omega (arith, low)) in
      let none = outside r w label parent (m + 1 + node_count children) (x + leaf_count children) rest k (λ e. omega (arith, less, low, e))
      (inl (omega (arith, high))) in
      omega (arith, all_of, split, none))) in
      let after = pairs whole label parent (m + 1 + node_count children) (x + leaf_count children) rest (omega (arith, less)) p.1 h.2
      (λ k low high. (let all_of = same k (omega (arith, low)) (omega (arith, high)) in
      let split = parts k (omega (arith, low)) in
      let none = outside r w name m (m + 1) x children k (λ e. omega (arith, low, e)) (inr (omega (arith, low))) in
      omega (arith, all_of, split, none))) in
      let long : m + 1 + node_count children ≡ m + 1 + length inner = let n = length-rows_of name m (m + 1) x children in omega (arith, n) in (
        own,
        pairs_both (m + 1) inner later (node_accounts s.version (system s) w reported x name children)
            (node_accounts s.version (system s) w reported (x + leaf_count children) label rest) under
            (subst (λ n. Pairs n later (node_accounts s.version (system s) w reported (x + leaf_count children) label rest)) long after),
      )

  pair_at : (k i : ℕ) (rows : List NodeRow) (vs : List Account) (row : NodeRow) (a : Account) → Pairs k rows vs → slice_get rows i ≡ Some row
      → slice_get vs i ≡ Some a → Fits (k + i) row a
  pair_at k i [] vs row a h e f = absurd (none_some e)
  pair_at k i (b ∷ rows) [] row a h e f = absurd h
  pair_at k zero (b ∷ rows) (c ∷ vs) row a h e f =
      let same : k ≡ k + 0 = omega arith in subst (λ n. Fits n row a) same (subst (λ q. Fits k row q) (some_same f) (subst (λ q. Fits k q c) (some_same e) h.0))
  pair_at k (suc i) (b ∷ rows) (c ∷ vs) row a h e f =
      let same : k + 1 + i ≡ k + suc i = omega arith in subst (λ n. Fits n row a) same (pair_at (k + 1) i rows vs row a h.1 e f)

-- ALL NODES

module _ (s : Scenario) (w : World) (stands : Stands s w) where
  abbrev rows : List NodeRow
  rows = node_rows s

  adds_by : (r : Resource) → IsCounted s.version r → (reported : List ℕ) (n : ℕ) (node : NodeRow) (a : Account) → slice_get rows n ≡ Some node
      → slice_get (accounts s w reported) n ≡ Some a → node.leaf ≡ None → InitAdds s w n node a r
  adds_by r counted reported n node a e f none =
      let there = leaf_there s w stands.whole.count in
      let fit = stands.fits r in
      let below_root = rows_of (codes "init") 0 1 0 s.nodes in
      let root = init_node (codes "init") None s.total in
      let first : (k : ℕ) → hands r w k rows ≡ hands r w k below_root = λ k. (let next = hands_next r w k root below_root in omega (arith, next)) in
      let all : Pairs r s w counted reported there rows 0 rows (accounts s w reported) = (
        (λ e. init_fits r s w counted reported there rows 0 0 (codes "init") s.total s.nodes fit.0
            (first 0 ∙ direct r w (codes "init") 0 1 0 s.nodes (omega arith))),
        pairs r s w counted reported there rows s.nodes (codes "init") 0 1 0 s.nodes (omega arith) (all_placed s) fit.1 (λ k low high. first k),
      ) in
      let adds = pair_at r s w counted reported there rows 0 n rows (accounts s w reported) node a all e f none in
      let none_given = given_none r w n rows in
      let same : 0 + n ≡ n = omega arith in
      let at = ap (λ k. hands r w k rows) same in omega (arith, adds, none_given, at)

  each_by : (b : Bool) → (counts_caps s.version) ≡ b → (reported : List ℕ) (n : ℕ) (node : NodeRow) (a : Account) → slice_get rows n ≡ Some node
      → slice_get (accounts s w reported) n ≡ Some a → node.leaf ≡ None → EachOf (cond b (Ram ∷ Caps ∷ []) (Ram ∷ [])) (InitAdds s w n node a)
  each_by true v reported n node a e f none = (adds_by Ram tt reported n node a e f none, (adds_by Caps v reported n node a e f none, tt))
  each_by false v reported n node a e f none = (adds_by Ram tt reported n node a e f none, tt)

  pub inits_add_up : InitsAdd s w
  inits_add_up reported n node a e f none = each_by (counts_caps s.version) refl reported n node a e f none
