-- Accounts of which one alone stands otherwise: that of a leaf that stays in its phase.
use Rattle.std.proofs.Common.{◌≡◌, ◌≢◌, ◌∙◌, ◌<◌, ◌≤◌, ◌⊎◌, ℕ, zero, suc, ◌+◌, inl, inr, cond, List, [], ◌∷◌, ◌++◌, length, map, get_or, Some, refl, ap}
use Rattle.std.proofs.Common.{sym, subst, arith, codes, append-nil, length-append}
use Rattle.std.specs.Prelude.{slice_get, slice_index, slice_set}
use Rattle.std.proofs.lemmas.List.{map-append}
use Rattle.gq_model.specs.machine.Accounts.{Account, account_at, account_line, accounts, init_account, leaf_account, leaf_count, node_accounts}
use Rattle.gq_model.specs.machine.Scenario.{Component, InitNode, LeafNode, Nodes, End, Leaf_node, Init_node, Scenario, System, below, system}
use Rattle.gq_model.specs.machine.World.{Leaf, World}
use Rattle.gq_model.proofs.Small_facts.{none_some, some_same}
use Rattle.gq_scenario.specs.Sizes.{leaf_places, node_count}
use Rattle.gq_traces.specs.Trace.{Standing, account_change, account_changes, standing_of}
use Rattle.gq_traces.proofs.Same_phase_step.{LeavesAll}
use Rattle.gq_traces.proofs.Unchanged_accounts_step.{else_stands, init_same, no_account_changes, nodes_same, standing_self}

-- the same at all places but this one
abbrev pub OneElse : List Standing → List Standing → ℕ → Type 0
OneElse [] [] k = Unit {0}
OneElse (a ∷ olds) (b ∷ news) zero = news ≡ olds
OneElse (a ∷ olds) (b ∷ news) (suc k) = (b ≡ a) × OneElse olds news k
OneElse [] (b ∷ news) k = ⊥
OneElse (a ∷ olds) [] k = ⊥

else_left : (olds news more others : List Standing) (k : ℕ) → OneElse olds news k → k < length olds → others ≡ more → OneElse (olds ++ more) (news ++ others) k
else_left [] [] more others k h less e = absurd (omega (arith, less))
else_left (a ∷ olds) (b ∷ news) more others zero h less e = λ i. h i ++ e i
else_left (a ∷ olds) (b ∷ news) more others (suc k) h less e = (h.0, else_left olds news more others k h.1 (omega (arith, less)) e)
else_left [] (b ∷ news) more others k h less e = absurd h
else_left (a ∷ olds) [] more others k h less e = absurd h

else_right : (olds news more others : List Standing) (k m : ℕ) → news ≡ olds → OneElse more others k → m ≡ length olds + k
    → OneElse (olds ++ more) (news ++ others) m
else_right olds news more others k m e h at = subst (λ l. OneElse (olds ++ more) (l ++ others) m) (sym e) (by olds m at)
  where
    by : (olds : List Standing) (m : ℕ) → m ≡ length olds + k → OneElse (olds ++ more) (olds ++ others) m
    by [] m at = let same : m ≡ k = omega (arith, at) in subst (OneElse more others) (sym same) h
    by (a ∷ olds) zero at = absurd (omega (arith, at))
    by (a ∷ olds) (suc m) at = (refl, by olds m (omega (arith, at)))

-- a place in one list or in the one behind it
pub in_both : {A : Type 0} (xs ys : List A) (j : ℕ) (a : A) → slice_get (xs ++ ys) j ≡ Some a
    → ((slice_get xs j ≡ Some a) × (j < length xs)) ⊎ ((i : ℕ) × (j ≡ length xs + i) × (slice_get ys i ≡ Some a))
in_both [] ys j a e = inr (j, omega arith, e)
in_both (x ∷ xs) ys zero a e = inl (e, omega arith)
in_both (x ∷ xs) ys (suc j) a e = elim (in_both xs ys j a e) [
  | inl t ↦ (let less = t.1 in inl (t.0, omega (arith, less)))
  | inr t ↦ (let at = t.1 in inr (t.0, omega (arith, at), t.2))
]

places_count : (n : ℕ) (nodes : Nodes) → length (leaf_places n nodes) ≡ leaf_count nodes
places_count n End = refl
places_count n (Leaf_node node rest) = ap suc (places_count (n + 1) rest)
places_count n (Init_node node children rest) =
    length-append (leaf_places (n + 1) children) (leaf_places (n + (1 + node_count children)) rest)
    ∙ (λ i. places_count (n + 1) children i + places_count (n + (1 + node_count children)) rest i)

module _ (version : ℕ) (w : World) (x : ℕ) (new : World) (h : LeavesAll w x new) (all : System) (budgets : List ℕ) where
  -- there is a y-th component, and a leaf for it in both worlds
  pub record IsThere (y : ℕ) : Type 0 where
    pub component : Component
    pub at : slice_get all.components y ≡ Some component
    pub was : Leaf
    pub there : slice_get w.leaves y ≡ Some was
    pub is : Leaf
    pub here : slice_get new.leaves y ≡ Some is

  abbrev olds : ℕ → List ℕ → Nodes → List Standing
  olds y label nodes = map standing_of (node_accounts version all w budgets y label nodes)

  abbrev news : ℕ → List ℕ → Nodes → List Standing
  news y label nodes = map standing_of (node_accounts version all new budgets y label nodes)

  -- of the nodes from the n-th on, that at place p alone stands otherwise
  record Found (n p : ℕ) (old_ones new_ones : List Standing) : Type 0 where
    pub k : ℕ
    pub place : p ≡ n + k
    pub less : k < length old_ones
    pub one : OneElse old_ones new_ones k

  module _ (y : ℕ) (t : IsThere y) (label : List ℕ) (node : LeafNode) (rest : Nodes) where
    old_one : Standing
    old_one = standing_of (leaf_account version w y t.component t.was (slice_index budgets y))

    new_one : Standing
    new_one = standing_of (leaf_account version new y t.component t.is (slice_index budgets y))

    old_is : olds y label (Leaf_node node rest) ≡ old_one ∷ olds (suc y) label rest
    unfolding old_one
    old_is = λ i. map standing_of (account_at version w y (t.at i) (t.there i) (slice_index budgets y)
        ++ node_accounts version all w budgets (suc y) label rest)

    new_is : news y label (Leaf_node node rest) ≡ new_one ∷ news (suc y) label rest
    unfolding new_one
    new_is = λ i. map standing_of (account_at version new y (t.at i) (t.here i) (slice_index budgets y)
        ++ node_accounts version all new budgets (suc y) label rest)

    one_stands : y ≢ x → new_one ≡ old_one
    unfolding old_one new_one
    one_stands ne =
        let e = else_stands version w x new h all budgets y ne in
        ap (λ l. get_or l 0 new_one)
        ((λ i. map standing_of (account_at version new y (sym t.at i) (sym t.here i) (slice_index budgets y)))
        ∙ (e ∙ (λ i. map standing_of (account_at version w y (t.at i) (t.there i) (slice_index budgets y)))))

    found_by : (n p : ℕ) → Found n p (old_one ∷ olds (suc y) label rest) (new_one ∷ news (suc y) label rest)
        → Found n p (olds y label (Leaf_node node rest)) (news y label (Leaf_node node rest))
    found_by n p f = subst (λ l. Found n p l (news y label (Leaf_node node rest))) (sym old_is)
        (subst (λ l. Found n p (old_one ∷ olds (suc y) label rest) l) (sym new_is) f)

    count_one : length (olds (suc y) label rest) ≡ node_count rest → length (olds y label (Leaf_node node rest)) ≡ 1 + node_count rest
    count_one e = ap length old_is ∙ omega (arith, e)

  module _ (y : ℕ) (label : List ℕ) (node : InitNode) (children rest : Nodes) where
    abbrev name : List ℕ
    name = below label node.name

    abbrev first : Standing
    first = standing_of (init_account version w y name node.quantum children)

    abbrev first_new : Standing
    first_new = standing_of (init_account version new y name node.quantum children)

    old_split : olds y label (Init_node node children rest) ≡ first ∷ olds y name children ++ olds (y + leaf_count children) label rest
    old_split = ap (λ l. first ∷ l)
        (map-append standing_of (node_accounts version all w budgets y name children)
        (node_accounts version all w budgets (y + leaf_count children) label rest))

    new_split : news y label (Init_node node children rest) ≡ first_new ∷ news y name children ++ news (y + leaf_count children) label rest
    new_split = ap (λ l. first_new ∷ l)
        (map-append standing_of (node_accounts version all new budgets y name children)
        (node_accounts version all new budgets (y + leaf_count children) label rest))

    found_among : (n p : ℕ) → Found n p (first ∷ olds y name children ++ olds (y + leaf_count children) label rest)
        (first_new ∷ news y name children ++ news (y + leaf_count children) label rest)
        → Found n p (olds y label (Init_node node children rest)) (news y label (Init_node node children rest))
    found_among n p f =
        subst (λ l. Found n p l (news y label (Init_node node children rest))) (sym old_split)
        (subst (λ l. Found n p (first ∷ olds y name children ++ olds (y + leaf_count children) label rest) l) (sym new_split) f)

  abbrev AreThere : ℕ → Nodes → Type 0
  AreThere y nodes = (z : ℕ) → y ≤ z → z < y + leaf_count nodes → IsThere z

  olds_count : (y : ℕ) (label : List ℕ) (nodes : Nodes) → AreThere y nodes → length (olds y label nodes) ≡ node_count nodes
  olds_count y label End each = refl
  olds_count y label (Leaf_node node rest) each =
      count_one y (each y (omega arith) (omega arith)) label node rest
      (olds_count (suc y) label rest (λ z least less. each z (omega (arith, least)) (omega (arith, less))))
  olds_count y label (Init_node node children rest) each =
      let name = below label node.name in
      let inner = olds_count y name children (λ z least less. each z least (omega (arith, less))) in
      let later = olds_count (y + leaf_count children) label rest (λ z least less. each z (omega (arith, least)) (omega (arith, less))) in
      let both = ap length (map-append standing_of (node_accounts version all w budgets y name children)
      (node_accounts version all w budgets (y + leaf_count children) label rest))
      ∙ length-append (olds y name children) (olds (y + leaf_count children) label rest) in
      omega (arith, inner, later, both)

  -- leaves that are all others stand as they stood
  stand : (y : ℕ) (label : List ℕ) (nodes : Nodes) → ((z : ℕ) → y ≤ z → z < y + leaf_count nodes → z ≢ x) → news y label nodes ≡ olds y label nodes
  stand y label nodes else =
      nodes_same version w x new h all budgets y label nodes (λ z least less. else_stands version w x new h all budgets z (else z least less))

  find : (nodes : Nodes) (label : List ℕ) (n y j p : ℕ) → x ≡ y + j → slice_get (leaf_places n nodes) j ≡ Some p → AreThere y nodes
      → Found n p (olds y label nodes) (news y label nodes)
  find End label n y j p at e each = absurd (none_some e)
  find (Leaf_node node rest) label n y zero p at e each =
      let first : n ≡ p = some_same e in
      found_by y (each y (omega arith) (omega arith)) label node rest n p (record {
        k = 0;
        place = omega (arith, first);
        less = omega arith;
        one = stand (suc y) label rest (λ z least less f. absurd (omega (arith, least, f, at)));
      })
  find (Leaf_node node rest) label n y (suc j) p at e each =
      let t = each y (omega arith) (omega arith) in
      let f = find rest label (n + 1) (suc y) j p (omega (arith, at)) e (λ z least less. each z (omega (arith, least)) (omega (arith, less))) in
      let place = f.place in
      let less = f.less in
      found_by y t label node rest n p (record {
        k = suc f.k;
        place = omega (arith, place);
        less = omega (arith, less);
        one = (one_stands y t label node rest (λ same. omega (arith, same, at)), f.one);
      })
  find (Init_node node children rest) label n y j p at e each =
      found_among y label node children rest n p
      (by (λ there. find children (below label node.name) (n + 1) y j p at there (λ z least less. each z least (omega (arith, less))))
      (λ i later there. find rest label (n + (1 + node_count children)) (y + leaf_count children) i p later there
      (λ z least less. each z (omega (arith, least)) (omega (arith, less))))
      (in_both (leaf_places (n + 1) children) (leaf_places (n + (1 + node_count children)) rest) j p e))
    where
      by : (slice_get (leaf_places (n + 1) children) j ≡ Some p
          → Found (n + 1) p (olds y (below label node.name) children) (news y (below label node.name) children))
          → ((i : ℕ) → x ≡ y + leaf_count children + i → slice_get (leaf_places (n + (1 + node_count children)) rest) i ≡ Some p
          → Found (n + (1 + node_count children)) p (olds (y + leaf_count children) label rest) (news (y + leaf_count children) label rest))
          → ((slice_get (leaf_places (n + 1) children) j ≡ Some p) × (j < length (leaf_places (n + 1) children)))
          ⊎ ((i : ℕ) × (j ≡ length (leaf_places (n + 1) children) + i) × (slice_get (leaf_places (n + (1 + node_count children)) rest) i ≡ Some p))
          → Found n p (first y label node children rest ∷ olds y (below label node.name) children ++ olds (y + leaf_count children) label rest)
          (first_new y label node children rest ∷ news y (below label node.name) children ++ news (y + leaf_count children) label rest)
      by among behind (inl t) =
          let count = places_count (n + 1) children in
          let few = t.1 in
          let f = among t.0 in
          let place = f.place in
          let less = f.less in
          let both = length-append (olds y (below label node.name) children) (olds (y + leaf_count children) label rest) in
          let later = stand (y + leaf_count children) label rest (λ z least less same. absurd (omega (arith, least, same, at, few, count))) in
          record {
            k = suc f.k;
            place = omega (arith, place);
            less = omega (arith, less, both);
            one = (
              init_same version w x new h y (below label node.name) node.quantum children,
              else_left (olds y (below label node.name) children) (news y (below label node.name) children) (olds (y + leaf_count children) label rest)
                  (news (y + leaf_count children) label rest) f.k f.one f.less later,
            );
          }
      by among behind (inr t) =
          let count = places_count (n + 1) children in
          let far = t.1 in
          let f = behind t.0 (omega (arith, at, far, count)) t.2 in
          let place = f.place in
          let less = f.less in
          let both = length-append (olds y (below label node.name) children) (olds (y + leaf_count children) label rest) in
          let long = olds_count y (below label node.name) children (λ z least less. each z least (omega (arith, less))) in
          let inner = stand y (below label node.name) children (λ z least less same. absurd (omega (arith, less, same, at, far, count))) in
          record {
            k = suc (node_count children + f.k);
            place = omega (arith, place);
            less = omega (arith, less, both, long);
            one = (
              init_same version w x new h y (below label node.name) node.quantum children,
              else_right (olds y (below label node.name) children) (news y (below label node.name) children) (olds (y + leaf_count children) label rest)
                  (news (y + leaf_count children) label rest) f.k (node_count children + f.k) inner f.one (omega (arith, long)),
            );
          }

-- of all accounts, that of the leaf alone stands otherwise
pub accounts_but : (s : Scenario) (w : World) (x : ℕ) (new : World) (h : LeavesAll w x new) (budgets : List ℕ) (p : ℕ)
    → slice_get (leaf_places 1 s.nodes) x ≡ Some p → ((z : ℕ) → z < leaf_count s.nodes → IsThere s.version w x new h (system s) budgets z)
    → OneElse (map standing_of (accounts s w budgets)) (map standing_of (accounts s new budgets)) p
accounts_but s w x new h budgets p at each =
    let f = find s.version w x new h (system s) budgets s.nodes (codes "init") 1 0 x p (omega arith) at (λ z least less. each z (omega (arith, less))) in
    let place = f.place in
    let next : suc f.k ≡ p = omega (arith, place) in
    subst (OneElse (map standing_of (accounts s w budgets)) (map standing_of (accounts s new budgets))) next
    (init_same s.version w x new h 0 (codes "init") s.total s.nodes, f.one)

-- then one line alone is reported
pub one_change : (version : ℕ) (olds : List Standing) (all : List Account) (k : ℕ) → OneElse olds (map standing_of all) k → (b : Standing) (a : Account)
    → slice_get olds k ≡ Some b → slice_get all k ≡ Some a → account_changes version olds all ≡ account_change version b a
one_change version [] all k h b a at there = absurd (none_some at)
one_change version (o ∷ olds) [] k h b a at there = absurd (none_some there)
one_change version (o ∷ olds) (n ∷ all) zero h b a at there =
    (λ i. account_change version (some_same at i) (some_same there i) ++ account_changes version (sym h i) all)
    ∙ (ap (λ l. account_change version b a ++ l) (no_account_changes version all) ∙ append-nil (account_change version b a))
one_change version (o ∷ olds) (n ∷ all) (suc k) h b a at there =
    ap (λ s. account_change version s n ++ account_changes version olds all) (sym h.0)
    ∙ (ap (λ t. cond t [] (account_line version n) ++ account_changes version olds all) (standing_self (standing_of n))
    ∙ one_change version olds all k h.1 b a at there)

-- and one account alone is noted anew
pub one_noted : {T : Type 0} (f : T → Standing) (olds : List T) (all : List Account) (k : ℕ) → OneElse (map f olds) (map standing_of all) k → (t : T)
    (a : Account) → slice_get all k ≡ Some a → f t ≡ standing_of a → map f (slice_set olds k t) ≡ map standing_of all
one_noted f [] [] k h t a there e = refl
one_noted f [] (n ∷ all) k h t a there e = absurd h
one_noted f (o ∷ olds) [] k h t a there e = absurd h
one_noted f (o ∷ olds) (n ∷ all) zero h t a there e = λ i. (e ∙ ap standing_of (sym (some_same there))) i ∷ sym h i
one_noted f (o ∷ olds) (n ∷ all) (suc k) h t a there e = λ i. sym h.0 i ∷ one_noted f olds all k h.1 t a there e i
