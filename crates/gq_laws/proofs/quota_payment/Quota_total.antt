-- The quotas of all nodes sum to what the root was given.
use Rattle.std.proofs.Common.{◌≡◌, ◌≢◌, ℕ, zero, suc, ◌+◌, ◌-◌, ◌≤◌, ◌<◌, ◌==◌, inl, inr, Bool, true, false, cond, List, [], ◌∷◌, ◌++◌, length, codes, Option}
use Rattle.std.proofs.Common.{Some, None, refl, ap, sym, ◌∙◌, arith}
use Rattle.std.specs.Prelude.{slice_get, slice_index, sum_by}
use Rattle.std.proofs.lemmas.Bool.{leb-true, true≢false}
use Rattle.std.proofs.lemmas.Bool.Decides.{eqb_tells}
use Rattle.std.proofs.lemmas.Option.{slice_get_within}
use Rattle.std.proofs.lemmas.List.Sums.{sum_by-cons}
use Rattle.gq_model.specs.machine.Amounts.{Resource, Ram, Caps, Amount, part, counts_caps, counted_in}
use Rattle.gq_model.specs.machine.Scenario.{Nodes, End, Leaf_node, Init_node, below, Component, components, Scenario, system}
use Rattle.gq_model.specs.machine.World.{Session, Leaf, World}
use Rattle.gq_model.specs.machine.Sums.{donated, to_leaf, from_leaf, held, lent, received, handed, quota, is_paid, are_paid, paid}
use Rattle.gq_model.specs.machine.Accounts.{Account, leaf_count, handed_to, spent, init_quota, amount_in, init_account, leaf_account, account_at, node_accounts}
use Rattle.gq_model.specs.machine.Accounts.{accounts}
use Rattle.gq_model.specs.Promises.{EachOf, SumsToTotal}
use Rattle.gq_laws.specs.Shapes.{Each, IsWholeSession, IsWholeWorld}
use Rattle.gq_laws.proofs.quota_payment.Written_world_prices.{paid_one}
use Rattle.std.proofs.lemmas.Bool.{and_parts}
use Rattle.gq_laws.proofs.quota_payment.Leaf_component_positions.{Placed, all_placed}
use Rattle.gq_laws.specs.internal.Init_quanta.{AllFit, Fit}
use Rattle.gq_model.proofs.Small_facts.{get_within, add_none, none_add, add_next}
use Rattle.gq_model.proofs.Component_laws.{components_count}

-- SUMS OVER PLACES

-- f of the n places from the x-th on
abbrev sum_from : (ℕ → ℕ) → ℕ → ℕ → ℕ
sum_from f x zero = 0
sum_from f x (suc n) = f x + sum_from f (suc x) n

sum_from_split : (f : ℕ → ℕ) (x a b : ℕ) → sum_from f x (a + b) ≡ sum_from f x a + sum_from f (x + a) b
sum_from_split f x zero b = ap (λ n. sum_from f x n) (none_add b) ∙ (ap (λ y. sum_from f y b) (add_none x) ∙ sym (none_add (sum_from f (x + 0) b)))
sum_from_split f x (suc a) b =
    ap (λ n. sum_from f x n) (next a b) ∙ (let h = sum_from_split f (suc x) a b in
    let at : sum_from f (suc x + a) b ≡ sum_from f (x + suc a) b = ap (λ y. sum_from f y b) (add_next x a) in omega (arith, h, at))
  where
    next : (a b : ℕ) → suc a + b ≡ suc (a + b)
    next a b = omega arith

sum_from_same : (f g : ℕ → ℕ) → ((y : ℕ) → f y ≡ g y) → (x n : ℕ) → sum_from f x n ≡ sum_from g x n
sum_from_same f g h x zero = refl
sum_from_same f g h x (suc n) = (λ i. h x i + sum_from_same f g h (suc x) n i)

sum_from_add : (f g : ℕ → ℕ) (x n : ℕ) → sum_from (λ y. f y + g y) x n ≡ sum_from f x n + sum_from g x n
sum_from_add f g x zero = omega arith
sum_from_add f g x (suc n) = let h = sum_from_add f g (suc x) n in omega (arith, h)

sum_from_zero : (x n : ℕ) → sum_from (λ y. 0) x n ≡ 0
sum_from_zero x zero = refl
sum_from_zero x (suc n) = let h = sum_from_zero (suc x) n in omega (arith, h)

-- v at one place
abbrev one_at : ℕ → ℕ → ℕ → ℕ
one_at y v x = cond (y == x) v 0

past : (y v x n : ℕ) → y < x → sum_from (one_at y v) x n ≡ 0
past y v x zero less = refl
past y v x (suc n) less =
    let rest = past y v (suc x) n (omega (arith, less)) in
    let here : one_at y v x ≡ 0 = elim (eqb_tells y x) [ inl e ↦ (let same = e.1 in absurd (omega (arith, less, same))) | inr e ↦ ap (λ b. cond b v 0) e.0 ] in
    omega (arith, rest, here)

at_one : (y v x n : ℕ) → x ≤ y → y < x + n → sum_from (one_at y v) x n ≡ v
at_one y v x zero le less = absurd (omega (arith, le, less))
at_one y v x (suc n) le less = elim (eqb_tells y x) [ inl e ↦ found e.0 e.1 | inr e ↦ further e.0 (at_one y v (suc x) n (more e.1) (omega (arith, less))) ]
  where
    more : y ≢ x → suc x ≤ y
    more ne = omega (arith, le, ne)

    found : (y == x) ≡ true → y ≡ x → sum_from (one_at y v) x (suc n) ≡ v
    found t same = let rest = past y v (suc x) n (omega (arith, same)) in let here : one_at y v x ≡ v = ap (λ b. cond b v 0) t in omega (arith, rest, here)

    further : (y == x) ≡ false → sum_from (one_at y v) (suc x) n ≡ v → sum_from (one_at y v) x (suc n) ≡ v
    further t rest = let here : one_at y v x ≡ 0 = ap (λ b. cond b v 0) t in omega (arith, rest, here)

-- SESSIONS

-- f of each session
abbrev of_all : (Session → ℕ) → Option Session → ℕ
of_all f None = 0
of_all f (Some s) = f s

module _ (n : ℕ) (f : Session → ℕ) where
  servers_sum : (sessions : List (Option Session)) → Each (IsWholeSession n) sessions
      → sum_from (λ x. sum_by (to_leaf x f) sessions) 0 n ≡ sum_by (of_all f) sessions
  servers_sum [] h = sum_from_zero 0 n
  servers_sum (o ∷ rest) h =
      sum_from_same (λ x. sum_by (to_leaf x f) (o ∷ rest)) (λ x. to_leaf x f o + sum_by (to_leaf x f) rest) (λ x. sum_by-cons (to_leaf x f) o rest) 0 n
      ∙ (sum_from_add (λ x. to_leaf x f o) (λ x. sum_by (to_leaf x f) rest) 0 n
      ∙ (let first = by o h.0 in let further = servers_sum rest h.1 in omega (arith, first, further, sum_by-cons (of_all f) o rest)))
    where
      by : (o : Option Session) → IsWholeSession n o → sum_from (λ x. to_leaf x f o) 0 n ≡ of_all f o
      by None k = sum_from_zero 0 n
      by (Some s) k = let less = k.2 in at_one s.server (f s) 0 n (omega arith) (omega (arith, less))

  clients_sum : (sessions : List (Option Session)) → Each (IsWholeSession n) sessions
      → sum_from (λ x. sum_by (from_leaf x f) sessions) 0 n ≡ sum_by (of_all f) sessions
  clients_sum [] h = sum_from_zero 0 n
  clients_sum (o ∷ rest) h =
      sum_from_same (λ x. sum_by (from_leaf x f) (o ∷ rest)) (λ x. from_leaf x f o + sum_by (from_leaf x f) rest) (λ x. sum_by-cons (from_leaf x f) o rest) 0 n
      ∙ (sum_from_add (λ x. from_leaf x f o) (λ x. sum_by (from_leaf x f) rest) 0 n
      ∙ (let first = by o h.0 in let further = clients_sum rest h.1 in omega (arith, first, further, sum_by-cons (of_all f) o rest)))
    where
      by : (o : Option Session) → IsWholeSession n o → sum_from (λ x. from_leaf x f o) 0 n ≡ of_all f o
      by None k = sum_from_zero 0 n
      by (Some s) k = let less = k.1 in at_one s.client (f s) 0 n (omega arith) (omega (arith, less))

-- ACCOUNTS

sum_append : {A : Type 0} (f : A → ℕ) (cs ds : List A) → sum_by f (cs ++ ds) ≡ sum_by f cs + sum_by f ds
sum_append f [] ds = omega arith
sum_append f (c ∷ cs) ds = let h = sum_append f cs ds in omega (arith, h, sum_by-cons f c cs, sum_by-cons f c (cs ++ ds))

-- a resource that is counted in this version
abbrev pub IsCounted : ℕ → Resource → Type 0
IsCounted version Ram = Unit {0}
IsCounted version Caps = counts_caps version ≡ true

part_in : (version : ℕ) (r : Resource) → IsCounted version r → (f : Resource → ℕ) → part r (amount_in version (f Ram) (f Caps)) ≡ f r
part_in version Ram h f = refl
part_in version Caps h f = ap (λ b. cond b (f Caps) 0) h

-- what is left and what was handed out is all
left_and_handed : (a b : ℕ) → b ≤ a → a - b + b ≡ a
left_and_handed a b le = omega (arith, le)

module _ (r : Resource) (s : Scenario) (counted : IsCounted s.version r) (w : World) (reported : List ℕ)
    (exist : (x : ℕ) (c : Component) → slice_get (components s) x ≡ Some c → (leaf : Leaf) × (slice_get w.leaves x ≡ Some leaf))
    (pays : (x : ℕ) (c : Component) (leaf : Leaf) → slice_get (components s) x ≡ Some c → slice_get w.leaves x ≡ Some leaf → is_paid w x c leaf r ≡ true) where
  abbrev reported_quota : Account → ℕ
  reported_quota a = part r a.quota

  abbrev sum_of : ℕ → List ℕ → Nodes → ℕ
  sum_of x label nodes = sum_by reported_quota (node_accounts s.version (system s) w reported x label nodes)

  init_reported : (x : ℕ) (label : List ℕ) (quantum : Amount) (children : Nodes) → spent r w x children ≤ part r quantum
      → reported_quota (init_account s.version w x label quantum children) + spent r w x children ≡ part r quantum
  init_reported x label quantum children le = (λ i. part_in s.version r counted (λ k. init_quota k w x quantum children) i + spent r w x children)
      ∙ left_and_handed (part r quantum) (spent r w x children) le

  leaf_reported : (x : ℕ) (c : Component) (leaf : Leaf) (budget : ℕ) → is_paid w x c leaf r ≡ true
      → reported_quota (leaf_account s.version w x c leaf budget) + lent r w x ≡ handed leaf.phase (part r c.node.quantum) + received r w x
  leaf_reported x c leaf budget p =
      let enough = leb-true (held r w x leaf + lent r w x) (handed leaf.phase (part r c.node.quantum) + received r w x) p in
      (λ i. part_in s.version r counted (λ k. quota k w x c leaf) i + lent r w x)
      ∙ left_and_handed (handed leaf.phase (part r c.node.quantum) + received r w x) (lent r w x) (omega (arith, enough))

  -- what these nodes are reported to have, and have lent, they were handed or have received
  balance : (whole : Nodes) (x : ℕ) (label : List ℕ) (nodes : Nodes) → Placed (components s) whole x nodes → AllFit r w x nodes
      → sum_of x label nodes + sum_from (λ y. lent r w y) x (leaf_count nodes) ≡ spent r w x nodes + sum_from (λ y. received r w y) x (leaf_count nodes)
  balance whole x label End p h = refl
  balance whole x label (Leaf_node node rest) p h =
      let c = p.0.0 in
      let leaf = exist x c p.0.1 in
      let budget = slice_index reported x in
      let further = balance whole (suc x) label rest p.1 h in
      let here = leaf_reported x c leaf.0 budget (pays x c leaf.0 p.0.1 leaf.1) in
      let account : sum_by reported_quota (account_at s.version w x (slice_get (components s) x) (slice_get w.leaves x) budget)
      ≡ reported_quota (leaf_account s.version w x c leaf.0 budget) =
      (λ i. sum_by reported_quota (account_at s.version w x (p.0.1 i) (leaf.1 i) budget)) ∙ one (leaf_account s.version w x c leaf.0 budget) in
      let all = sum_append reported_quota (account_at s.version w x (slice_get (components s) x) (slice_get w.leaves x) budget)
      (node_accounts s.version (system s) w reported (suc x) label rest) in
      let handed_here : handed_to (slice_get w.leaves x) (part r node.quantum) ≡ handed leaf.0.phase (part r c.node.quantum) =
      (λ i. handed_to (leaf.1 i) (part r (sym p.0.2 i).quantum)) in
      omega (arith, further, here, account, all, handed_here)
    where
      one : (a : Account) → sum_by reported_quota (a ∷ []) ≡ reported_quota a
      one a = omega (arith, sum_by-cons reported_quota a [])
  balance whole x label (Init_node node children rest) p h =
      let inner = balance children x (below label node.name) children p.0 h.1 in
      let outer = balance whole (x + leaf_count children) label rest p.1 h.2 in
      let own = init_reported x (below label node.name) node.quantum children h.0 in
      let first = sum_by-cons reported_quota (init_account s.version w x (below label node.name) node.quantum children)
      (node_accounts s.version (system s) w reported x (below label node.name) children
      ++ node_accounts s.version (system s) w reported (x + leaf_count children) label rest) in
      let all = sum_append reported_quota (node_accounts s.version (system s) w reported x (below label node.name) children)
      (node_accounts s.version (system s) w reported (x + leaf_count children) label rest) in
      let lends = sum_from_split (λ y. lent r w y) x (leaf_count children) (leaf_count rest) in
      let receives = sum_from_split (λ y. received r w y) x (leaf_count children) (leaf_count rest) in
      omega (arith, inner, outer, own, first, all, lends, receives)

  total : IsWholeWorld (system s) w → Fit r s w → sum_by reported_quota (accounts s w reported) ≡ part r s.total
  total is_whole h =
      let count : leaf_count s.nodes ≡ length (components s) = sym (components_count (codes "init") s.default_routes s.nodes [] s.nodes) in
      let all = balance s.nodes 0 (codes "init") s.nodes (all_placed s) h.1 in
      let own = init_reported 0 (codes "init") s.total s.nodes h.0 in
      let first = sum_by-cons reported_quota (init_account s.version w 0 (codes "init") s.total s.nodes)
      (node_accounts s.version (system s) w reported 0 (codes "init") s.nodes) in
      let lends = ap (sum_from (λ y. lent r w y) 0) count ∙ clients_sum (length (components s)) (donated r) w.sessions is_whole.sessions in
      let receives = ap (sum_from (λ y. received r w y) 0) count ∙ servers_sum (length (components s)) (donated r) w.sessions is_whole.sessions in
      omega (arith, all, own, first, lends, receives)

-- EACH RESOURCE

module _ (s : Scenario) (w : World) (is_whole : IsWholeWorld (system s) w) (h : paid (system s) w ≡ true) (fits : (r : Resource) → Fit r s w) where
  exists : (x : ℕ) (c : Component) → slice_get (components s) x ≡ Some c → (leaf : Leaf) × (slice_get w.leaves x ≡ Some leaf)
  exists x c e = let less = slice_get_within (components s) x c e in let count = is_whole.count in get_within w.leaves x (omega (arith, less, count))

  -- each resource of the version is paid
  pays_by : (b : Bool) → counts_caps s.version ≡ b → (r : Resource) → IsCounted s.version r → (x : ℕ) (c : Component) (leaf : Leaf)
      → are_paid w x c leaf (cond b (Ram ∷ Caps ∷ []) (Ram ∷ [])) ≡ true → is_paid w x c leaf r ≡ true
  pays_by true e Ram k x c leaf p = (and_parts (is_paid w x c leaf Ram) (are_paid w x c leaf (Caps ∷ [])) p).0
  pays_by true e Caps k x c leaf p = (and_parts (is_paid w x c leaf Caps) (are_paid w x c leaf [])
      (and_parts (is_paid w x c leaf Ram) (are_paid w x c leaf (Caps ∷ [])) p).1).0
  pays_by false e Ram k x c leaf p = (and_parts (is_paid w x c leaf Ram) (are_paid w x c leaf []) p).0
  pays_by false e Caps k x c leaf p = absurd (true≢false (sym k ∙ e))

  sum_of_each : (r : Resource) → IsCounted s.version r → SumsToTotal s w r
  sum_of_each r k reported =
      total r s k w reported exists
      (λ x c leaf e f. pays_by (counts_caps s.version) refl r k x c leaf (paid_one (counted_in s.version) w 0 (components s) w.leaves h x c leaf e f x
      (omega arith)))
      is_whole (fits r)

  each_by : (b : Bool) → counts_caps s.version ≡ b → EachOf (cond b (Ram ∷ Caps ∷ []) (Ram ∷ [])) (SumsToTotal s w)
  each_by true e = (sum_of_each Ram tt, (sum_of_each Caps e, tt))
  each_by false e = (sum_of_each Ram tt, tt)

  pub sums_to_total : EachOf (system s).counted (SumsToTotal s w)
  sums_to_total = each_by (counts_caps s.version) refl
