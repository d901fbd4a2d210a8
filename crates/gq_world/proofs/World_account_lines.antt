-- The accounts of a world, node by node, and their lines.
use Rattle.std.proofs.Common.{◌≡◌, ◌<◌, ◌+◌, ℕ, zero, suc, List, [], ◌∷◌, ◌++◌, drop, length, Option, Some, None, IfSome, refl, take, length-append}
use Rattle.std.proofs.Common.{◌≤◌, ◌-◌, ◌^◌, Bool, true, false, map, option_map, append_assoc, append-nil, ap, sym, ◌∙◌, subst, arith, add-one, codes}
use Rattle.std.specs.Prelude.{slice_get, slice_index, nat_lt, decimal, if◌then◌else◌}
use Rattle.std.proofs.Math.Logic.{∥∥₁_elim}
use Rattle.std.specs.Coded.{Coded-set, coded_ℕ, le_prop}
use Rattle.gq_model.specs.machine.Amounts.{Amount, amount}
use Rattle.gq_model.specs.Promises as promises
use Rattle.gq_model.specs.Promises.{KeepsAccount, AllKeep, KeepsAccounts, IsUpheld}
use Rattle.gq_model.specs.machine.Scenario.{Route, Nodes, End, Leaf_node, Init_node, Level, level, below, Scenario, Component, components_of}
use Rattle.gq_model.specs.machine.Scenario.{components, system}
use Rattle.gq_model.specs.machine.World.{Leaf, World}
use Rattle.gq_model.specs.machine.Accounts.{LeafAccount, Account, leaf_count, leaf_account, account_at, node_accounts, accounts, account_line}
use Rattle.gq_model.specs.machine.Accounts.{account_lines, entry, init_account, phase_word, reported, shown}
use Rattle.gq_model.specs.machine.Step_budgets.{StepBudget, all_steps_in, steps_in}
use Rattle.gq_model.proofs.Small_facts.{some_same}
use Rattle.gq_model.specs.rules.Accept.{Budget, budgets, step_budgets}
use Rattle.gq_scenario.specs.Sizes.{node_count}
use Rattle.gq_resolve.specs.NodeTables.{NodeRow, leaf_node, rows_of, node_rows}
use Rattle.gq_laws.specs.Stands.{Stands}
use Rattle.gq_world.specs.World_between_turns as worlds
use Rattle.gq_output.specs.Account_values.{AccountValues, reported_of, with_label}
use Rattle.gq_world.specs.Account_lines.{ReportsOf, accounts_by, all_accounts, accounts_text, stored_budgets}

-- LEAVES

-- there is a leaf for each component
pub leaves_count : (s : Scenario) (w : World) → ∥ Stands s w ∥₁ → length w.leaves ≡ length (components s)
leaves_count s w stands = ∥∥₁_elim stands (Coded-set coded_ℕ (length w.leaves) (length (components s))) (λ h. h.whole.count)

there_is : {A : Type 0} (xs : List A) (x : ℕ) → x < length xs → (a : A) × (slice_get xs x ≡ Some a)
there_is [] x less = absurd (omega (arith, less))
there_is (a ∷ xs) zero less = (a, refl)
there_is (a ∷ xs) (suc x) less = there_is xs x (omega (arith, less))

within : {A : Type 0} (xs : List A) (x : ℕ) (a : A) → slice_get xs x ≡ Some a → x < length xs
within [] x a e = cc
within (b ∷ xs) zero a e = omega arith
within (b ∷ xs) (suc x) a e = let h = within xs x a e in omega (arith, h)

pub leaf_there : (s : Scenario) (w : World) → length w.leaves ≡ length (components s) → (x : ℕ) (c : Component) → slice_get (components s) x ≡ Some c
    → (leaf : Leaf) × (slice_get w.leaves x ≡ Some leaf)
leaf_there s w count x c e = let less = within (components s) x c e in there_is w.leaves x (omega (arith, less, count))

first_left : {A : Type 0} (xs : List A) (x : ℕ) (a : A) (rest : List A) → drop x xs ≡ a ∷ rest → (slice_get xs x ≡ Some a) × (drop (suc x) xs ≡ rest)
first_left [] zero a rest e = cc
first_left [] (suc x) a rest e = cc
first_left (y ∷ ys) zero a rest e = (cc, cc)
first_left (y ∷ ys) (suc x) a rest e = first_left ys x a rest e

drop_past : {A : Type 0} (prefix back xs : List A) (x : ℕ) → drop x xs ≡ prefix ++ back → drop (x + length prefix) xs ≡ back
drop_past [] back xs x e = let same : x + 0 ≡ x = omega arith in ap (λ n. drop n xs) same ∙ e
drop_past (a ∷ prefix) back xs x e =
    let next = first_left xs x a (prefix ++ back) e in
    let same : x + suc (length prefix) ≡ suc x + length prefix = omega arith in
    ap (λ n. drop n xs) same ∙ drop_past prefix back xs (suc x) next.1

count_leaves : (label : List ℕ) (routes : Option (List Route)) (siblings : Nodes) (above : List Level) (nodes : Nodes)
    → length (components_of label routes siblings above nodes) ≡ leaf_count nodes
count_leaves label routes siblings above End = refl
count_leaves label routes siblings above (Leaf_node node rest) = ap suc (count_leaves label routes siblings above rest)
count_leaves label routes siblings above (Init_node node children rest) =
    let inner = components_of (below label node.name) node.default_routes children (level node.routes routes siblings ∷ above) children in
    let later = components_of label routes siblings above rest in
    length-append inner later
    ∙ (λ i. count_leaves (below label node.name) node.default_routes children (level node.routes routes siblings ∷ above) children i
    + count_leaves label routes siblings above rest i)

-- ACCOUNTS

module _ (s : Scenario) (w : World) (reported : List ℕ) where
  -- the account of an init has no leaf; that of the x-th leaf is this
  abbrev pub Reports : Option ℕ → Account → Type 0
  Reports None a = a.leaf ≡ None
  Reports (Some x) a =
      (c : Component) × (leaf : Leaf) × (slice_get (components s) x ≡ Some c) × (slice_get w.leaves x ≡ Some leaf)
      × (a ≡ leaf_account s.version w x c leaf (slice_index reported x))

  pub record IsAccountOf (r : NodeRow) (a : Account) : Type 0 where
    pub label : a.label ≡ r.label
    pub reports : Reports r.leaf a

  abbrev pub AreAccountsOf : List NodeRow → List Account → Type 0
  AreAccountsOf [] [] = Unit {0}
  AreAccountsOf (r ∷ rows) (a ∷ all) = IsAccountOf r a × AreAccountsOf rows all
  AreAccountsOf [] (a ∷ all) = ⊥
  AreAccountsOf (r ∷ rows) [] = ⊥

  both : (rows rows' : List NodeRow) (all all' : List Account) → AreAccountsOf rows all → AreAccountsOf rows' all' → AreAccountsOf (rows ++ rows') (all ++ all')
  both [] rows' [] all' h k = k
  both [] rows' (a ∷ all) all' h k = absurd h
  both (r ∷ rows) rows' [] all' h k = absurd h
  both (r ∷ rows) rows' (a ∷ all) all' h k = (h.0, both rows rows' all all' h.1 k)

  module _ (there : (x : ℕ) (c : Component) → slice_get (components s) x ≡ Some c → (leaf : Leaf) × (slice_get w.leaves x ≡ Some leaf)) where
    from_nodes : (label : List ℕ) (routes : Option (List Route)) (siblings : Nodes) (above : List Level) (parent n x : ℕ) (nodes : Nodes)
        (more : List Component)
        → drop x (components s) ≡ components_of label routes siblings above nodes ++ more
        → AreAccountsOf (rows_of label parent n x nodes) (node_accounts s.version (system s) w reported x label nodes)
    from_nodes label routes siblings above parent n x End more e = tt
    from_nodes label routes siblings above parent n x (Leaf_node node rest) more e =
        let c : Component = record { label = below label node.name; node = node; levels = level node.routes routes siblings ∷ above } in
        let at = first_left (components s) x c (components_of label routes siblings above rest ++ more) e in
        let leaf = there x c at.0 in
        let row = leaf_node (below label node.name) parent x node.quantum in
        let account = leaf_account s.version w x c leaf.0 (slice_index reported x) in
        let here : account_at s.version w x (slice_get (components s) x) (slice_get w.leaves x) (slice_index reported x) ≡ account ∷ [] =
        (λ i. account_at s.version w x (at.0 i) (leaf.1 i) (slice_index reported x)) in
        let next = subst (λ (m : ℕ). AreAccountsOf (rows_of label parent (n + 1) m rest) (node_accounts s.version (system s) w reported (suc x) label rest))
        (sym (add-one x)) (from_nodes label routes siblings above parent (n + 1) (suc x) rest more at.1) in
        let own : IsAccountOf row account = record { label = refl; reports = (c, leaf.0, at.0, leaf.1, refl) } in
        subst (λ (l : List Account). AreAccountsOf (row ∷ rows_of label parent (n + 1) (x + 1) rest) (l
        ++ node_accounts s.version (system s) w reported (suc x) label rest))
        (sym here) (own, next)
    from_nodes label routes siblings above parent n x (Init_node node children rest) more e =
        let inner = components_of (below label node.name) node.default_routes children (level node.routes routes siblings ∷ above) children in
        let later = components_of label routes siblings above rest in
        let split : drop x (components s) ≡ inner ++ (later ++ more) = e ∙ append_assoc inner later more in
        let under = from_nodes (below label node.name) node.default_routes children (level node.routes routes siblings ∷ above) n (n + 1) x children (later
        ++ more) split in
        let counted = count_leaves (below label node.name) node.default_routes children (level node.routes routes siblings ∷ above) children in
        let past : drop (x + leaf_count children) (components s) ≡ later ++ more =
        ap (λ m. drop (x + m) (components s)) (sym counted) ∙ drop_past inner (later ++ more) (components s) x split in
        let after = from_nodes label routes siblings above parent (n + 1 + node_count children) (x + leaf_count children) rest more past in (
          record { label = refl; reports = refl },
          both (rows_of (below label node.name) n (n + 1) x children) (rows_of label parent (n + 1 + node_count children) (x + leaf_count children) rest)
              (node_accounts s.version (system s) w reported x (below label node.name) children)
              (node_accounts s.version (system s) w reported (x + leaf_count children) label rest) under after,
        )

    accounts_of : AreAccountsOf (node_rows s) (accounts s w reported)
    accounts_of = (
      record { label = refl; reports = refl },
      from_nodes (codes "init") s.default_routes s.nodes [] 0 1 0 s.nodes [] (sym (append-nil (components s))),
    )

-- what is reported of a node
pub record AccountAt (s : Scenario) (w : World) (reported : List ℕ) (rows : List NodeRow) (all : List Account) (n : ℕ) : Type 0 where
  pub row : NodeRow
  pub account : Account
  pub row_there : slice_get rows n ≡ Some row
  pub account_there : slice_get all n ≡ Some account
  pub is : IsAccountOf s w reported row account

at_place : (s : Scenario) (w : World) (reported : List ℕ) (rows : List NodeRow) (all : List Account) (n : ℕ) → AreAccountsOf s w reported rows all → n < length
    rows
    → AccountAt s w reported rows all n
at_place s w reported [] all n h less = absurd (omega (arith, less))
at_place s w reported (r ∷ rows) [] n h less = absurd h
at_place s w reported (r ∷ rows) (a ∷ all) zero h less = record { row = r; account = a; row_there = refl; account_there = refl; is = h.0 }
at_place s w reported (r ∷ rows) (a ∷ all) (suc n) h less =
    let p = at_place s w reported rows all n h.1 (omega (arith, less)) in
    record { row = p.row; account = p.account; row_there = p.row_there; account_there = p.account_there; is = p.is }

same_count : (s : Scenario) (w : World) (reported : List ℕ) (rows : List NodeRow) (all : List Account) → AreAccountsOf s w reported rows all → length all ≡
    length rows
same_count s w reported [] [] h = refl
same_count s w reported [] (a ∷ all) h = absurd h
same_count s w reported (r ∷ rows) [] h = absurd h
same_count s w reported (r ∷ rows) (a ∷ all) h = ap suc (same_count s w reported rows all h.1)

-- the accounts of a world are those of its nodes
module _ (s : Scenario) (w : World) (reported : List ℕ) (count : length w.leaves ≡ length (components s)) where
  all_of_nodes : AreAccountsOf s w reported (node_rows s) (accounts s w reported)
  all_of_nodes = accounts_of s w reported (leaf_there s w count)

  pub accounts_count : length (accounts_by s w reported) ≡ length (node_rows s)
  unfolding accounts_by
  accounts_count = same_count s w reported (node_rows s) (accounts s w reported) all_of_nodes

  pub account_at_node : (n : ℕ) → n < length (node_rows s) → AccountAt s w reported (node_rows s) (accounts_by s w reported) n
  unfolding accounts_by
  account_at_node n less = at_place s w reported (node_rows s) (accounts s w reported) n all_of_nodes less

-- so are those of a world of the code
pub all_count : (w : worlds.World) → length w.world.leaves ≡ length (components w.scenario) → length (all_accounts w) ≡ length (node_rows w.scenario)
unfolding all_accounts
all_count w count = accounts_count w.scenario w.world (stored_budgets w.world (step_budgets (budgets w.scenario))) count

-- and those that the machine has are those of its world
pub all_by : (s : Scenario) (v : World) (bs : List Budget) (w : worlds.World) → s ≡ w.scenario → v ≡ w.world → bs ≡ budgets s
    → accounts_by s v (stored_budgets v (step_budgets bs)) ≡ all_accounts w
unfolding all_accounts
all_by s v bs w e f g =
    let same : bs ≡ budgets w.scenario = g ∙ ap budgets e in λ i. accounts_by (e i) (f i) (stored_budgets (f i) (step_budgets (same i)))

pub lines_by : (s : Scenario) (v : World) (bs : List Budget) (w : worlds.World) → s ≡ w.scenario → v ≡ w.world → bs ≡ budgets s
    → account_lines s.version (accounts_by s v (stored_budgets v (step_budgets bs))) ≡ accounts_text w
lines_by s v bs w e f g = let all = all_by s v bs w e f g in λ i. account_lines ((e i).version) (all i)

-- what was found of a node's leaf
abbrev pub LeafRead : Scenario → World → List ℕ → Option ℕ → Option LeafAccount → Type 0
LeafRead s w reported None l = l ≡ None
LeafRead s w reported (Some x) l = (a : LeafAccount) × (l ≡ Some a) × ReportsOf s w reported x a

module _ (s : Scenario) (w : World) (reported : List ℕ) (all : List Account) (n : ℕ) (p : AccountAt s w reported (node_rows s) all n) where
  -- the leaf that its row names is there
  named_there : (o : Option ℕ) (x : ℕ) (a : Account) → o ≡ Some x → Reports s w reported o a → x < length (components s)
  named_there None x a e t = cc
  named_there (Some y) x a e t = let same : y ≡ x = cc in subst (λ (m : ℕ). m < length (components s)) same (within (components s) y t.0 t.2)

  row_leaf : (found : Option ℕ) → IfSome (slice_get (node_rows s) n) (λ r. found ≡ r.leaf) → found ≡ p.row.leaf
  row_leaf found h = subst (λ (o : Option NodeRow). IfSome o (λ r. found ≡ r.leaf)) p.row_there h

  pub leaf_within : (found : Option ℕ) (x : ℕ) → IfSome (slice_get (node_rows s) n) (λ r. found ≡ r.leaf) → found ≡ Some x → x < length (components s)
  leaf_within found x h e = named_there p.row.leaf x p.account (sym (row_leaf found h) ∙ e) p.is.reports

  leaf_by : (o : Option ℕ) (a : Account) (l : Option LeafAccount) → Reports s w reported o a → LeafRead s w reported o l → l ≡ a.leaf
  leaf_by None a l t h = h ∙ sym t
  leaf_by (Some x) a l t h = h.1 ∙ (sym (h.2 t.0 t.1 t.2 t.3) ∙ ap (λ b. b.leaf) (sym t.4))

  leaf_is : (found : Option ℕ) (l : Option LeafAccount) → IfSome (slice_get (node_rows s) n) (λ r. found ≡ r.leaf) → LeafRead s w reported found l
      → l ≡ p.account.leaf
  leaf_is found l h k = leaf_by p.row.leaf p.account l p.is.reports (subst (λ (o : Option ℕ). LeafRead s w reported o l) (row_leaf found h) k)

  at_account : (P : Account → Type 0) → IfSome (slice_get all n) P → P p.account
  at_account P h = subst (λ (o : Option Account). IfSome o P) p.account_there h

  -- what is reported of it
  pub reported_is : (ram caps : ℕ) (found : Option ℕ) (l : Option LeafAccount) (t : AccountValues) → t ≡ record { quota = amount ram caps; leaf = l }
      → IfSome (slice_get all n) (λ a. ram ≡ a.quota.ram) → IfSome (slice_get all n) (λ a. caps ≡ a.quota.caps)
      → IfSome (slice_get (node_rows s) n) (λ r. found ≡ r.leaf) → LeafRead s w reported found l → IfSome (slice_get all n) (λ a. t ≡ reported_of a)
  reported_is ram caps found l t e q k h r =
      let quota = at_account (λ a. ram ≡ a.quota.ram) q in
      let of_caps = at_account (λ a. caps ≡ a.quota.caps) k in
      let leaf = leaf_is found l h r in
      let same : t ≡ reported_of p.account = e ∙ (λ i. record { quota = amount (quota i) (of_caps i); leaf = leaf i }) in
      subst (λ (o : Option Account). IfSome o (λ a. t ≡ reported_of a)) (sym p.account_there) same

  -- its line
  pub line_is : (label line : List ℕ) (t : AccountValues) (version : ℕ) → version ≡ s.version → line ≡ account_line version (with_label label t)
      → IfSome (slice_get (node_rows s) n) (λ r. label ≡ r.label) → IfSome (slice_get all n) (λ a. t ≡ reported_of a)
      → IfSome (slice_get all n) (λ a. line ≡ account_line s.version a)
  line_is label line t version v e l h =
      let named : label ≡ p.account.label = subst (λ (o : Option NodeRow). IfSome o (λ r. label ≡ r.label)) p.row_there l ∙ sym p.is.label in
      let known = at_account (λ a. t ≡ reported_of a) h in
      let same : line ≡ account_line s.version p.account = e ∙ (λ i. account_line (v i) (with_label (named i) (known i))) in
      subst (λ (o : Option Account). IfSome o (λ a. line ≡ account_line s.version a)) (sym p.account_there) same

-- the line of the account of a node
pub line_of_node : (w : worlds.World) → length w.world.leaves ≡ length (components w.scenario) → (n : ℕ) → n < length (node_rows w.scenario)
    → (label line : List ℕ) (account : AccountValues) (version : ℕ) → version ≡ w.scenario.version → line ≡ account_line version (with_label label account)
    → IfSome (slice_get (node_rows w.scenario) n) (λ r. label ≡ r.label) → IfSome (slice_get (all_accounts w) n) (λ a. account ≡ reported_of a)
    → (a : Account) → slice_get (all_accounts w) n ≡ Some a → line ≡ account_line w.scenario.version a
unfolding all_accounts
line_of_node w leaves n less label line account version same is labelled reported a there =
    let s = w.scenario in
    let b = stored_budgets w.world (step_budgets (budgets s)) in
    let p = account_at_node s w.world b leaves n less in
    subst (λ (o : Option Account). IfSome o (λ z. line ≡ account_line s.version z)) there
    (line_is s w.world b (accounts_by s w.world b) n p label line account version same is labelled reported)

-- BUDGETS

stored_at : (w : World) (bs : List StepBudget) (x : ℕ) → slice_index (stored_budgets w bs) x ≡ shown (slice_index (all_steps_in w bs) x)
stored_at w [] x = refl
stored_at w (b ∷ bs) zero = refl
stored_at w (b ∷ bs) (suc x) = stored_at w bs x

-- a budget of this leaf
pub stored_of : (w : World) (all : List Budget) (x : ℕ) (b : Budget) → slice_get all x ≡ Some b
    → slice_index (stored_budgets w (step_budgets all)) x ≡ shown (steps_in w b.steps)
stored_of w [] x b e = cc
stored_of w (a ∷ all) zero b e = ap (λ (o : Budget). shown (steps_in w o.steps)) (some_same e)
stored_of w (a ∷ all) (suc x) b e = stored_of w all x b e

-- who has none is reported none
pub stored_past : (w : World) (all : List Budget) (x : ℕ) → slice_get all x ≡ None → slice_index (stored_budgets w (step_budgets all)) x ≡ 0
stored_past w [] x e = refl
stored_past w (a ∷ all) zero e = cc
stored_past w (a ∷ all) (suc x) e = stored_past w all x e

-- the account with its budget as 64 bits store it
abbrev stored_leaf : LeafAccount → LeafAccount
stored_leaf l = record l { budget = shown l.budget }

abbrev stored : Account → Account
stored a = record a { leaf = option_map stored_leaf a.leaf }

map_both : (xs ys : List Account) → map stored (xs ++ ys) ≡ map stored xs ++ map stored ys
map_both [] ys = refl
map_both (x ∷ xs) ys = ap (λ l. stored x ∷ l) (map_both xs ys)

module _ (s : Scenario) (w : World) (bs : List StepBudget) where
  at_stored : (x : ℕ) (c : Option Component) (o : Option Leaf)
      → account_at s.version w x c o (slice_index (stored_budgets w bs) x) ≡ map stored (account_at s.version w x c o (slice_index (all_steps_in w bs) x))
  at_stored x (Some c) (Some leaf) = ap (λ n. leaf_account s.version w x c leaf n ∷ []) (stored_at w bs x)
  at_stored x (Some c) None = refl
  at_stored x None o = refl

  nodes_stored : (x : ℕ) (label : List ℕ) (nodes : Nodes) → node_accounts s.version (system s) w (stored_budgets w bs) x label nodes
      ≡ map stored (node_accounts s.version (system s) w (all_steps_in w bs) x label nodes)
  nodes_stored x label End = refl
  nodes_stored x label (Leaf_node node rest) =
      let here = at_stored x (slice_get (components s) x) (slice_get w.leaves x) in
      let later = nodes_stored (suc x) label rest in
      (λ i. here i ++ later i)
      ∙ sym (map_both (account_at s.version w x (slice_get (components s) x) (slice_get w.leaves x) (slice_index (all_steps_in w bs) x))
      (node_accounts s.version (system s) w (all_steps_in w bs) (suc x) label rest))
  nodes_stored x label (Init_node node children rest) =
      let name = below label node.name in
      let account = init_account s.version w x name node.quantum children in
      let under = nodes_stored x name children in
      let later = nodes_stored (x + leaf_count children) label rest in
      (λ i. account ∷ (under i ++ later i))
      ∙ ap (λ l. account ∷ l) (sym (map_both (node_accounts s.version (system s) w (all_steps_in w bs) x name children)
      (node_accounts s.version (system s) w (all_steps_in w bs) (x + leaf_count children) label rest)))

  accounts_stored : accounts s w (stored_budgets w bs) ≡ map stored (accounts s w (all_steps_in w bs))
  accounts_stored = ap (λ l. init_account s.version w 0 (codes "init") s.total s.nodes ∷ l) (nodes_stored 0 (codes "init") s.nodes)

twice_by : (b : Bool) (n : ℕ) → nat_lt n (2 ^ 64) ≡ b → shown (if b then n else 2 ^ 64 - 1) ≡ (if b then n else 2 ^ 64 - 1)
twice_by true n e = ap (λ (c : Bool). if c then n else 2 ^ 64 - 1) e
twice_by false n e = refl

twice : (n : ℕ) → shown (shown n) ≡ shown n
twice n = twice_by (nat_lt n (2 ^ 64)) n refl

line_stored : (version : ℕ) (a : Account) → account_line version (stored a) ≡ account_line version a
line_stored version a = by a.leaf
  where
    by : (o : Option LeafAccount) → account_line version (record a { leaf = option_map stored_leaf o }) ≡ account_line version (record a { leaf = o })
    by None = refl
    by (Some l) =
        ap (λ (n : ℕ). codes "account " ++ a.label ++ entry (codes "quota") a.quota.ram ++ entry (codes "used") l.used.ram
        ++ reported version (entry (codes "caps") a.quota.caps ++ entry (codes "taken") l.used.caps)
        ++ (entry (codes "steps") (shown l.steps) ++ codes "/" ++ decimal n ++ codes " " ++ phase_word l.phase) ++ 10 ∷ []) (twice l.budget)

lines_stored : (version : ℕ) (all : List Account) → account_lines version (map stored all) ≡ account_lines version all
lines_stored version [] = refl
lines_stored version (a ∷ all) =
    let here = line_stored version a in
    let later = lines_stored version all in
    (λ i. here i ++ later i)

-- lines show a budget as it is stored
pub stored_lines : (s : Scenario) (w : World) (bs : List StepBudget)
    → account_lines s.version (accounts s w (stored_budgets w bs)) ≡ account_lines s.version (accounts s w (all_steps_in w bs))
stored_lines s w bs = ap (account_lines s.version) (accounts_stored s w bs) ∙ lines_stored s.version (accounts s w (all_steps_in w bs))

-- WHAT ACCOUNTS KEEP

-- an account whose steps are held
abbrev KeepsHeld : (LeafAccount → Amount → ℕ) → (LeafAccount → Amount → ℕ) → Type 0
KeepsHeld low high = (q : Amount) (l : LeafAccount) → KeepsAccount q l → l.steps < 2 ^ 64 → low (stored_leaf l) q ≤ high (stored_leaf l) q

within_shown : (n m : ℕ) → n ≤ m → n < 2 ^ 64 → n ≤ shown m
within_shown n m few less = by (nat_lt m (2 ^ 64)) few less
  where
    by : (b : Bool) → n ≤ m → n < 2 ^ 64 → n ≤ (if b then m else 2 ^ 64 - 1)
    by true few less = few
    by false few less = omega (arith, less)

pub keeps_bytes : KeepsHeld (λ l q. l.used.ram) (λ l q. q.ram)
keeps_bytes q l k less = k.bytes

pub keeps_caps : KeepsHeld (λ l q. l.used.caps) (λ l q. q.caps)
keeps_caps q l k less = k.caps

pub keeps_steps : KeepsHeld (λ l q. l.steps) (λ l q. l.budget)
keeps_steps q l k less = within_shown l.steps l.budget k.steps less

module _ (low high : LeafAccount → Amount → ℕ) (by : KeepsHeld low high) where
  abbrev Fits : Amount → Option LeafAccount → Type 0
  Fits q o = IfSome o (λ l. low l q ≤ high l q)

  abbrev AreHeld : Option LeafAccount → Type 0
  AreHeld o = IfSome o (λ l. l.steps < 2 ^ 64)

  fits_once : (q : Amount) (o : Option LeafAccount) (a b : Fits q o) → a ≡ b
  fits_once q None a b = refl
  fits_once q (Some l) a b = le_prop a b

  fits_by : (q : Amount) (o : Option LeafAccount) → promises.KeepsQuota q o → AreHeld (option_map stored_leaf o) → Fits q (option_map stored_leaf o)
  fits_by q None h k = tt
  fits_by q (Some l) h k = by q l h k

  fits_in : (all : List Account) (n : ℕ) (reported : AccountValues) → n < length (map stored all) → AllKeep all
      → IfSome (slice_get (map stored all) n) (λ a. reported ≡ reported_of a) → AreHeld reported.leaf → Fits reported.quota reported.leaf
  fits_in [] n reported less h e k = absurd (omega (arith, less))
  fits_in (a ∷ all) zero reported less h e k =
      subst (λ (t : AccountValues). Fits t.quota t.leaf) (sym e)
      (fits_by a.quota a.leaf h.0 (subst (λ (t : AccountValues). AreHeld t.leaf) e k))
  fits_in (a ∷ all) (suc n) reported less h e k = fits_in all n reported (omega (arith, less)) h.1 e k

  -- so it is of each node
  pub fits_at : ((s : Scenario) (v : World) → Stands s v → IsUpheld s v) → ((s : Scenario) (v : World) → IsUpheld s v → KeepsAccounts s v) → (w : worlds.World)
      → ∥ Stands w.scenario w.world ∥₁ → (n : ℕ) (reported : AccountValues) → n < length (all_accounts w)
      → IfSome (slice_get (all_accounts w) n) (λ a. reported ≡ reported_of a) → AreHeld reported.leaf
      → IfSome reported.leaf (λ l. low l reported.quota ≤ high l reported.quota)
  unfolding all_accounts accounts_by
  fits_at promised kept w stands n reported less e k =
      let bs = step_budgets (budgets w.scenario) in
      let same = accounts_stored w.scenario w.world bs in
      ∥∥₁_elim stands (fits_once reported.quota reported.leaf) (λ h.
      fits_in (accounts w.scenario w.world (all_steps_in w.world bs)) n reported (subst (λ (l : List Account). n < length l) same less)
      (kept w.scenario w.world (promised w.scenario w.world h))
      (subst (λ (l : List Account). IfSome (slice_get l n) (λ a. reported ≡ reported_of a)) same e) k)

-- LINES

-- the lines up to the n-th, and one more
pub lines_next : (version : ℕ) (all : List Account) (n : ℕ) (line : List ℕ) → n < length all → IfSome (slice_get all n) (λ a. line ≡ account_line version a)
    → account_lines version (take (suc n) all) ≡ account_lines version (take n all) ++ line
lines_next version [] n line less h = absurd (omega (arith, less))
lines_next version (a ∷ all) zero line less h = append-nil (account_line version a) ∙ sym h
lines_next version (a ∷ all) (suc n) line less h =
    ap (λ (t : List ℕ). account_line version a ++ t) (lines_next version all n line (omega (arith, less)) h)
    ∙ sym (append_assoc (account_line version a) (account_lines version (take n all)) line)
