-- All leaves together hold no more than there is.
use Rattle.std.proofs.Common.{◌≡◌, ◌≤◌, ◌+◌, ℕ, zero, suc, Bool, true, false, cond, List, [], ◌∷◌, ◌++◌, length, Option, Some, None, refl, sym, ap}
use Rattle.std.proofs.Common.{◌∙◌, arith}
use Rattle.std.specs.Prelude.{slice_get, slice_index, sum_by, ◌==◌}
use Rattle.std.proofs.Math.Logic.{∥∥₁_elim}
use Rattle.std.specs.Coded.{le_prop}
use Rattle.std.proofs.lemmas.List.Sums.{sum_by-cons, sum_by-append}
use Rattle.gq_model.specs.machine.Accounts.{Account, LeafAccount, account_at, accounts, init_account, leaf_account, leaf_count, node_accounts}
use Rattle.gq_model.specs.machine.Amounts.{Caps, Ram, Resource, part, counts_caps}
use Rattle.gq_model.specs.machine.Scenario.{Component, End, Init_node, Leaf_node, Nodes, Scenario, below, components, system}
use Rattle.gq_model.specs.machine.Sums.{held}
use Rattle.gq_model.specs.machine.World.{Leaf, World}
use Rattle.gq_model.specs.Promises.{AllKeep, EachOf, IsUpheld, KeepsQuota, KeepsAccounts, SumsToTotal, held_at, held_of}
use Rattle.gq_model.specs.machine.Step_budgets.{all_steps_in}
use Rattle.gq_model.specs.rules.Accept.{budgets, step_budgets}
use Rattle.gq_model.proofs.Small_facts.{get_within}
use Rattle.gq_scenario.proofs.Preorder_leaves.{components-count}
use Rattle.gq_laws.specs.Stands.{Stands}
use Rattle.gq_prepared.specs.Leaf_holdings.{held_by_all, held_from}
use Rattle.gq_world.proofs.World_turn_facts.{Promises}

-- WHAT ACCOUNTS REPORT

abbrev use_in : Option LeafAccount → ℕ
use_in None = 0
use_in (Some a) = a.used.ram

abbrev used : List Account → ℕ
used all = sum_by (λ (a : Account). use_in a.leaf) all

abbrev given : List Account → ℕ
given all = sum_by (λ (a : Account). part Ram a.quota) all

kept_one : (a : Account) → KeepsQuota a.quota a.leaf → use_in a.leaf ≤ part Ram a.quota
kept_one a h = by a.leaf h
  where
    by : (o : Option LeafAccount) → KeepsQuota a.quota o → use_in o ≤ part Ram a.quota
    by None h = omega arith
    by (Some l) h = h.bytes

all_kept : (all : List Account) → AllKeep all → used all ≤ given all
all_kept [] h = omega arith
all_kept (a ∷ rest) h =
    let one = kept_one a h.0 in
    let more = all_kept rest h.1 in
    let left = sum_by-cons (λ (b : Account). use_in b.leaf) a rest in
    let right = sum_by-cons (λ (b : Account). part Ram b.quota) a rest in
    omega (arith, one, more, left, right)

-- WHAT LEAVES HOLD

-- what n leaves hold from the x-th on
abbrev holds_next : World → ℕ → ℕ → ℕ
holds_next w x zero = 0
holds_next w x (suc n) = held_at Ram w x + holds_next w (suc x) n

next_both : (w : World) (x m n : ℕ) → holds_next w x (m + n) ≡ holds_next w x m + holds_next w (x + m) n
next_both w x zero n =
    let same : x + 0 ≡ x = omega arith in
    let none : 0 + n ≡ n = omega arith in
    ap (holds_next w x) none ∙ sym (ap (λ y. holds_next w y n) same) ∙ sym (zero_add (holds_next w (x + 0) n))
  where
    zero_add : (k : ℕ) → 0 + k ≡ k
    zero_add k = omega arith
next_both w x (suc m) n =
    let more : suc m + n ≡ suc (m + n) = omega arith in
    let same : x + suc m ≡ suc x + m = omega arith in
    let rest = next_both w (suc x) m n in
    let first = ap (holds_next w x) more in
    let last = ap (λ y. holds_next w y n) same in
    omega (arith, rest, first, last)

held_next : (w : World) (ls : List Leaf) (x : ℕ) → ((i : ℕ) → slice_get w.leaves (x + i) ≡ slice_get ls i) → held_from Ram w x ls ≡ holds_next w x (length ls)
held_next w [] x at = refl
held_next w (leaf ∷ rest) x at =
    let same : x + 0 ≡ x = omega arith in
    let here : held_at Ram w x ≡ held Ram w x leaf = ap (held_of Ram w x) (sym (ap (slice_get w.leaves) same) ∙ at 0) in
    let more = held_next w rest (suc x) (λ i. (let next : suc x + i ≡ x + suc i = omega arith in ap (slice_get w.leaves) next ∙ at (suc i))) in
    omega (arith, here, more)

module _ (s : Scenario) (w : World) (reported : List ℕ) where
  one_used : (x b : ℕ) (c : Component) (o : Option Leaf) → used (account_at s.version w x (Some c) o b) ≡ held_of Ram w x o
  one_used x b c None = refl
  one_used x b c (Some leaf) = sum_by-cons (λ (a : Account). use_in a.leaf) (leaf_account s.version w x c leaf b) [] ∙ add_none (held Ram w x leaf)
    where
      add_none : (k : ℕ) → k + 0 ≡ k
      add_none k = omega arith

  both_used : (xs ys : List Account) → used (xs ++ ys) ≡ used xs + used ys
  both_used xs ys = sum_by-append (λ (a : Account). use_in a.leaf) xs ys

  used_nodes : (x : ℕ) (label : List ℕ) (nodes : Nodes) → x + leaf_count nodes ≤ length (components s)
      → used (node_accounts s.version (system s) w reported x label nodes) ≡ holds_next w x (leaf_count nodes)
  used_nodes x label End within = refl
  used_nodes x label (Leaf_node node rest) within =
      let c = get_within (components s) x (omega (arith, within)) in
      let here = ap (λ o. used (account_at s.version w x o (slice_get w.leaves x) (slice_index reported x))) c.1 ∙ one_used x (slice_index reported x) c.0
      (slice_get w.leaves x) in
      let more = used_nodes (suc x) label rest (omega (arith, within)) in
      let both = both_used (account_at s.version w x (slice_get (components s) x) (slice_get w.leaves x) (slice_index reported x))
      (node_accounts s.version (system s) w reported (suc x) label rest) in
      omega (arith, here, more, both)
  used_nodes x label (Init_node node children rest) within =
      let name = below label node.name in
      let inner = node_accounts s.version (system s) w reported x name children in
      let later = node_accounts s.version (system s) w reported (x + leaf_count children) label rest in
      let under = used_nodes x name children (omega (arith, within)) in
      let after = used_nodes (x + leaf_count children) label rest (omega (arith, within)) in
      let first = sum_by-cons (λ (a : Account). use_in a.leaf) (init_account s.version w x name node.quantum children) (inner ++ later) in
      let both = both_used inner later in
      let split = next_both w x (leaf_count children) (leaf_count rest) in
      omega (arith, under, after, first, both, split)

first_counted : (b : Bool) (P : Resource → Type 0) → EachOf (cond b (Ram ∷ Caps ∷ []) (Ram ∷ [])) P → P Ram
first_counted true P h = h.0
first_counted false P h = h.0

held_within : (s : Scenario) (w : World) → length w.leaves ≡ length (components s) → KeepsAccounts s w → SumsToTotal s w Ram
    → held_by_all Ram w ≤ s.total.ram
held_within s w count keeps sums =
    let reported = all_steps_in w (step_budgets (budgets s)) in
    let nodes = node_accounts s.version (system s) w reported 0 (Rattle.std.specs.Prelude.codes "init") s.nodes in
    let leaves : leaf_count s.nodes ≡ length (components s) = components-count s in
    let all = all_kept (accounts s w reported) keeps in
    let first = sum_by-cons (λ (a : Account). use_in a.leaf)
    (init_account s.version w 0 (Rattle.std.specs.Prelude.codes "init") s.total s.nodes) nodes in
    let under = used_nodes s w reported 0 (Rattle.std.specs.Prelude.codes "init") s.nodes (omega (arith, leaves)) in
    let held = held_next w w.leaves 0 (λ i. (let none : 0 + i ≡ i = omega arith in ap (slice_get w.leaves) none)) in
    let same = ap (holds_next w 0) (leaves ∙ sym count) in
    let total = sums reported in
    omega (arith, all, first, under, held, same, total)

-- what all leaves hold is within what there is, in a world of which all is promised
pub within_total : Promises → ((s : Scenario) (w : World) → IsUpheld s w → KeepsAccounts s w) → (s : Scenario) (w : World) → ∥ Stands s w ∥₁
    → held_by_all Ram w ≤ s.total.ram
within_total promises keeps s w stands =
    ∥∥₁_elim stands le_prop (λ h.
    let up = promises s w h in held_within s w h.whole.count (keeps s w up) (first_counted (counts_caps s.version) (SumsToTotal s w) up.quotas_sum))
