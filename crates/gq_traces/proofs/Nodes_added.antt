-- The text of `state` is that of its nodes, and the items of each add up.
use Rattle.std.proofs.Common.{◌≡◌, ◌∙◌, ℕ, zero, suc, ◌+◌, Bool, true, false, cond, List, [], ◌∷◌, ◌++◌, Option, Some, None, Ok, Err, refl, ap, sym}
use Rattle.std.proofs.Common.{subst, add-one, append-nil, arith}
use Rattle.std.specs.Prelude.{Result, codes, slice_get, slice_index}
use Rattle.gq_model.proofs.Small_facts.{none_some, some_same}
use Rattle.gq_model.specs.machine.Accounts.{Account, LeafAccount, account_at, account_line, accounts, amount_in, leaf_account, leaf_count, node_accounts}
use Rattle.gq_model.specs.machine.Amounts.{Resource, Ram, Caps, counts_caps}
use Rattle.gq_model.specs.machine.Run.{Acts, run}
use Rattle.gq_model.specs.machine.Scenario.{Component, Nodes, End, Leaf_node, Init_node, Scenario, below, components, system}
use Rattle.gq_model.specs.machine.Sums.{held, quota}
use Rattle.gq_model.specs.machine.World.{Leaf, World}
use Rattle.gq_model.specs.machine.Step_budgets.{all_steps_in}
use Rattle.gq_model.specs.rules.Accept.{budgets, step_budgets}
use Rattle.gq_model.specs.texts.Turns.{Turned, turned}
use Rattle.gq_model.specs.Promises.{EachOf}
use Rattle.gq_laws.specs.Shapes.{Each}
use Rattle.gq_laws.proofs.quota_payment.Leaf_component_positions.{Placed, all_placed}
use Rattle.gq_laws.proofs.quota_payment.Quota_total.{IsCounted}
use Rattle.gq_load.specs.Load.{LoadRefusal, loaded}
use Rattle.gq_resolve.specs.NodeTables.{NodeRow, leaf_node, node_rows, rows_of}
use Rattle.gq_scenario.specs.Sizes.{node_count}
use Rattle.gq_reports.specs.Whole.{Written, with_scenario}
use Rattle.gq_traces.specs.Made_of.{AddsUp, LeafAddsUp, Shown, ShowsSums, after, all_shown, shown_below, shown_leaf}
use Rattle.gq_traces.specs.Made_of.{shown_node, shown_nodes, shown_text, sum_of}
use Rattle.gq_traces.specs.Account_state.{Lent, init_items, items_text, leaf_items, leaf_text, node_text, nodes_text, state_text}
use Rattle.gq_traces.specs.Trace.{Traced, accounts_in}
use Rattle.gq_traces.specs.First_turns.{some_turns}
use Rattle.gq_traces.specs.Traces_written.{state_from, state_written, with_turns}
use Rattle.gq_traces.proofs.First_taken.{are_first}
use Rattle.gq_traces.specs.internal.Item_sums.{InitAdds, InitsAdd, LeafAdds, LeavesAdd}
use Rattle.gq_traces.proofs.Inits_added.{part_in}

-- THE TEXT

module _ (s : Scenario) (t : Traced) where
  leaf_shown : (a : Account) (x : ℕ) (c : Option Component) (leaf : Option Leaf)
      → leaf_text s.version (system s) t x c leaf ≡ shown_below s.version (shown_leaf (system s) t a x c leaf)
  leaf_shown a x (Some c) (Some leaf) = refl
  leaf_shown a x (Some c) None = refl
  leaf_shown a x None leaf = refl

  node_shown : (n : ℕ) (a : Account) (node : NodeRow) (o : Option ℕ) → node_text s t n node o ≡ shown_below s.version (shown_node s t n a node o)
  node_shown n a node None = sym (append-nil (items_text s.version (init_items t.world n node (node_rows s))))
  node_shown n a node (Some x) = leaf_shown a x (slice_get (components s) x) (slice_get t.world.leaves x)

  nodes_shown : (n : ℕ) (all : List Account) (nodes : List NodeRow) → nodes_text s t n all nodes ≡ shown_text s.version (shown_nodes s t n all nodes)
  nodes_shown n [] nodes = refl
  nodes_shown n (a ∷ all) [] = refl
  nodes_shown n (a ∷ all) (node ∷ nodes) =
      ap (λ l. account_line s.version l ++ node_text s t n node node.leaf ++ nodes_text s t (suc n) all nodes) (sym (account_is n a node node.leaf))
      ∙ (λ i. account_line s.version (shown_node s t n a node node.leaf).account ++ node_shown n a node node.leaf i ++ nodes_shown (suc n) all nodes i)
    where
      leaf_account_is : (a : Account) (x : ℕ) (c : Option Component) (leaf : Option Leaf) → (shown_leaf (system s) t a x c leaf).account ≡ a
      leaf_account_is a x (Some c) (Some leaf) = refl
      leaf_account_is a x (Some c) None = refl
      leaf_account_is a x None leaf = refl

      account_is : (n : ℕ) (a : Account) (node : NodeRow) (o : Option ℕ) → (shown_node s t n a node o).account ≡ a
      account_is n a node None = refl
      account_is n a node (Some x) = leaf_account_is a x (slice_get (components s) x) (slice_get t.world.leaves x)

-- ACCOUNTS OF NODES

module _ (s : Scenario) (w : World) where
  -- the account of a leaf that is there
  record IsLeafOf (x : ℕ) (a : Account) : Type 0 where
    component : Component
    leaf : Leaf
    named : slice_get (components s) x ≡ Some component
    stands : slice_get w.leaves x ≡ Some leaf
    budget : ℕ
    is : a ≡ leaf_account s.version w x component leaf budget

  -- the account is that of an init, or of such a leaf
  abbrev IsOf : Option ℕ → Account → Type 0
  IsOf None a = a.leaf ≡ None
  IsOf (Some x) a = IsLeafOf x a

  abbrev AreOf : List NodeRow → List Account → Type 0
  AreOf [] [] = Unit {0}
  AreOf (row ∷ rows) (a ∷ more) = IsOf row.leaf a × AreOf rows more
  AreOf [] (a ∷ more) = ⊥
  AreOf (row ∷ rows) [] = ⊥

  both_of : (xs ys : List NodeRow) (vs ws : List Account) → AreOf xs vs → AreOf ys ws → AreOf (xs ++ ys) (vs ++ ws)
  both_of [] ys [] ws h g = g
  both_of [] ys (a ∷ vs) ws h g = absurd h
  both_of (x ∷ xs) ys [] ws h g = absurd h
  both_of (x ∷ xs) ys (a ∷ vs) ws h g = (h.0, both_of xs ys vs ws h.1 g)

  of_at : (rows : List NodeRow) (vs : List Account) (i : ℕ) (row : NodeRow) (a : Account) → AreOf rows vs → slice_get rows i ≡ Some row
      → slice_get vs i ≡ Some a → IsOf row.leaf a
  of_at [] vs i row a h e f = absurd (none_some e)
  of_at (b ∷ rows) [] i row a h e f = absurd h
  of_at (b ∷ rows) (c ∷ vs) zero row a h e f = subst (λ q. IsOf row.leaf q) (some_same f) (subst (λ (q : NodeRow). IsOf q.leaf c) (some_same e) h.0)
  of_at (b ∷ rows) (c ∷ vs) (suc i) row a h e f = of_at rows vs i row a h.1 e f

  module _ (reported : List ℕ) (there : (x : ℕ) (c : Component) → slice_get (components s) x ≡ Some c → (leaf : Leaf) ×
      (slice_get w.leaves x ≡ Some leaf)) where
    are_of : (whole : Nodes) (label : List ℕ) (parent m x : ℕ) (nodes : Nodes) → Placed (components s) whole x nodes
        → AreOf (rows_of label parent m x nodes) (node_accounts s.version (system s) w reported x label nodes)
    are_of whole label parent m x End p = tt
    are_of whole label parent m x (Leaf_node node rest) p =
        let c = p.0.0 in
        let leaf = there x c p.0.1 in
        let account = leaf_account s.version w x c leaf.0 (slice_index reported x) in
        let here : account_at s.version w x (slice_get (components s) x) (slice_get w.leaves x) (slice_index reported x) ≡ account ∷ [] =
        (λ i. account_at s.version w x (p.0.1 i) (leaf.1 i) (slice_index reported x)) in
        let row = leaf_node (below label node.name) parent x node.quantum in
        let later = rows_of label parent (m + 1) (x + 1) rest in
        let placed = subst (λ y. Placed (components s) whole y rest) (sym (add-one x)) p.1 in
        let next = are_of whole label parent (m + 1) (x + 1) rest placed in
        let next_so = subst (λ y. AreOf later (node_accounts s.version (system s) w reported y label rest)) (add-one x) next in
        let its : IsLeafOf x account =
        record { component = c; leaf = leaf.0; named = p.0.1; stands = leaf.1; budget = slice_index reported x; is = refl } in
        subst (λ (l : List Account). AreOf (row ∷ later) (l ++ node_accounts s.version (system s) w reported (suc x) label rest)) (sym here) (its, next_so)
    are_of whole label parent m x (Init_node node children rest) p =
        let name = below label node.name in
        let under = are_of children name m (m + 1) x children p.0 in
        let next = are_of whole label parent (m + 1 + node_count children) (x + leaf_count children) rest p.1 in (
          refl,
          both_of (rows_of name m (m + 1) x children) (rows_of label parent (m + 1 + node_count children) (x + leaf_count children) rest)
              (node_accounts s.version (system s) w reported x name children)
              (node_accounts s.version (system s) w reported (x + leaf_count children) label rest) under next,
        )

    all_of_nodes : AreOf (node_rows s) (accounts s w reported)
    all_of_nodes = (refl, are_of s.nodes (codes "init") 0 1 0 s.nodes (all_placed s))

-- SUMS

-- of each resource that is counted
counted_each : (version : ℕ) (P Q : Resource → Type 0) → ((r : Resource) → IsCounted version r → P r → Q r) → (b : Bool) → (counts_caps version) ≡ b
    → EachOf (cond b (Ram ∷ Caps ∷ []) (Ram ∷ [])) P → EachOf (cond b (Ram ∷ Caps ∷ []) (Ram ∷ [])) Q
counted_each version P Q f true e h = (f Ram tt h.0, (f Caps e h.1.0, tt))
counted_each version P Q f false e h = (f Ram tt h.0, tt)

module _ (s : Scenario) (t : Traced) (leaves : LeavesAdd s t.world) where
  abbrev Adds : Shown → Type 0
  Adds n = AddsUp (system s).counted n n.account.leaf

  abbrev leaf_now : Account → ℕ → Component → Leaf → Shown
  leaf_now a x c leaf = shown_leaf (system s) t a x (Some c) (Some leaf)

  leaf_adds : (x b : ℕ) (c : Component) (leaf : Leaf) → slice_get (components s) x ≡ Some c → slice_get t.world.leaves x ≡ Some leaf
      → Adds (leaf_now (leaf_account s.version t.world x c leaf b) x c leaf)
  leaf_adds x b c leaf named stands live =
      let a = leaf_account s.version t.world x c leaf b in
      let used : LeafAccount = record {
        used = amount_in s.version (held Ram t.world x leaf) (held Caps t.world x leaf);
        steps = leaf.steps;
        budget = b;
        phase = leaf.phase;
      } in
      counted_each s.version (LeafAdds s t.world x c leaf) (LeafAddsUp (leaf_now a x c leaf) used)
      (λ r counted h. record {
        used = h.used ∙ sym (part_in s.version r counted (λ q. held q t.world x leaf));
        quota_is = h.quota_is ∙ ap (λ n. n + sum_of Lent r (leaf_items (system s) t.world x c leaf leaf.phase))
            (sym (part_in s.version r counted (λ q. quota q t.world x c leaf)));
      })
      (counts_caps s.version) refl (leaves x c leaf named stands live)

  -- a leaf, by its account
  pub leaf_shown_adds : (n x : ℕ) (a : Account) (node : NodeRow)
      → (c : Component) (leaf : Leaf) (b : ℕ) → slice_get (components s) x ≡ Some c → slice_get t.world.leaves x ≡ Some leaf
      → a ≡ leaf_account s.version t.world x c leaf b → Adds (shown_node s t n a node (Some x))
  leaf_shown_adds n x a node c leaf b named stands is =
      subst (λ (n : Shown). Adds n) (λ i. shown_leaf (system s) t (sym is i) x (sym named i) (sym stands i)) (leaf_adds x b c leaf named stands)

  node_adds : (n : ℕ) (a : Account) (node : NodeRow) (o : Option ℕ) → IsOf s t.world o a
      → (o ≡ None → EachOf (system s).counted (InitAdds s t.world n node a)) → Adds (shown_node s t n a node o)
  node_adds n a node None is init = subst (AddsUp (system s).counted (shown_node s t n a node None)) (sym is) (init refl)
  node_adds n a node (Some x) is init = leaf_shown_adds n x a node is.component is.leaf is.budget is.named is.stands is.is

  -- nodes by their numbers
  nodes_add : (n : ℕ) (all : List Account) (nodes : List NodeRow)
      → ((i : ℕ) (node : NodeRow) (a : Account) → slice_get nodes i ≡ Some node → slice_get all i ≡ Some a → Adds (shown_node s t (n + i) a node node.leaf))
      → Each Adds (shown_nodes s t n all nodes)
  nodes_add n [] nodes h = tt
  nodes_add n (a ∷ all) [] h = tt
  nodes_add n (a ∷ all) (node ∷ nodes) h =
      let same : n + 0 ≡ n = omega arith in (
        subst (λ k. Adds (shown_node s t k a node node.leaf)) same (h 0 node a refl refl),
        nodes_add (suc n) all nodes
            (λ i row b e f. (let next : n + suc i ≡ suc n + i = omega arith in
            subst (λ k. Adds (shown_node s t k b row row.leaf)) next (h (suc i) row b e f))),
      )

  pub all_add : ((x : ℕ) (c : Component) → slice_get (components s) x ≡ Some c → (leaf : Leaf) × (slice_get t.world.leaves x ≡ Some leaf))
      → InitsAdd s t.world → Each Adds (all_shown s t)
  all_add there inits =
      let b = all_steps_in t.world (step_budgets (budgets s)) in
      nodes_add 0 (accounts s t.world b) (node_rows s) (λ i node a e f. (
      let first : i ≡ 0 + i = omega arith in
      subst (λ k. Adds (shown_node s t k a node node.leaf)) first
      (node_adds i a node node.leaf (of_at s t.world (node_rows s) (accounts s t.world b) i node a (all_of_nodes s t.world b there) e f)
      (λ none. inits b i node a e f none))))

-- FROM BYTES TO BYTES

not_written : {A : Type 0} (why text : List ℕ) → ◌≡◌ {A = Written} (Err why) (Ok text) → A
not_written why text e = absurd cc

same_text : (a b : List ℕ) → ◌≡◌ {A = Written} (Ok a) (Ok b) → a ≡ b
same_text a b e = cc

pub shows_sums : (first : Option ℕ) (scenario turns text : List ℕ)
    → ((s : Scenario) → loaded scenario ≡ Ok s → (taken : Acts) → (after s taken).world ≡ (run (system s) taken).world)
    → ((s : Scenario) → loaded scenario ≡ Ok s → (taken : Acts) → Each (λ n. AddsUp (system s).counted n n.account.leaf) (all_shown s (after s taken)))
    → state_written first scenario turns ≡ Ok text → ShowsSums first scenario turns text
shows_sums first scenario turns text world adds e = from (loaded scenario) refl e
  where
    read : (s : Scenario) → loaded scenario ≡ Ok s → (r : Turned) → turned s turns ≡ r
        → with_turns r (λ t. state_text s (some_turns first t)) ≡ Ok text
        → ShowsSums first scenario turns text
    read s loads (Err fault) reads f = not_written _ text f
    read s loads (Ok all) reads f =
        let taken = some_turns first all in
        record {
          accepted = s;
          loads = loads;
          all = all;
          reads = reads;
          taken = taken;
          first_of_all = are_first first all;
          shows = sym (same_text (state_text s taken) text f)
              ∙ nodes_shown s (after s taken) 0 (accounts_in s (after s taken).world (step_budgets (budgets s))) (node_rows s);
          world = world s loads taken;
          adds = adds s loads taken;
        }

    from : (r : Result Scenario LoadRefusal) → loaded scenario ≡ r → with_scenario r (λ s. state_from first s turns) ≡ Ok text → ShowsSums first scenario turns
        text
    from (Err fault) loads f = not_written _ text f
    from (Ok s) loads f = read s loads (turned s turns) refl f
