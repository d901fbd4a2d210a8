-- In each account of a world that is upheld a leaf has used no more than its quota, and taken no more steps than its budget.
use Rattle.std.proofs.Common.{◌≡◌, ◌≤◌, ◌&&◌, ◌+◌, ℕ, zero, suc, cond, Bool, true, false, List, [], ◌∷◌, ◌++◌, Option, Some, None, refl, ap, sym, ◌∙◌}
use Rattle.std.proofs.Common.{arith}
use Rattle.std.specs.Prelude.{slice_get, slice_index, codes}
use Rattle.std.proofs.lemmas.Bool.{leb-true, and_parts}
use Rattle.gq_model.specs.machine.Amounts.{Resource, Ram, Caps, part, counts_caps, counted_in}
use Rattle.gq_model.specs.machine.Scenario.{Scenario, Component, Nodes, End, Leaf_node, Init_node, components, system, below}
use Rattle.gq_model.specs.machine.World.{Leaf, World}
use Rattle.gq_model.specs.machine.Sums.{held, lent, received, handed, quota, is_paid, are_paid}
use Rattle.gq_model.specs.machine.Accounts.{Account, leaf_count, account_at, node_accounts, leaf_account}
use Rattle.gq_model.specs.machine.Step_budgets.{steps_in, all_steps_in}
use Rattle.gq_model.specs.rules.Accept.{Budget, budgets, step_budgets}
use Rattle.gq_model.specs.Promises.{budget_of, AllKeep, KeepsAccounts, IsUpheld}
use Rattle.gq_model.proofs.Small_facts.{none_some, some_same}
use Rattle.gq_laws.proofs.quota_payment.Written_world_prices.{paid_one}

-- the steps of the x-th budget
steps_at : (w : World) (bs : List Budget) (x : ℕ) (b : Budget) → slice_get bs x ≡ Some b
    → slice_index (all_steps_in w (step_budgets bs)) x ≡ steps_in w b.steps
steps_at w [] x b e = absurd (none_some e)
steps_at w (a ∷ bs) zero b e = ap (λ (b : Budget). steps_in w b.steps) (some_same e)
steps_at w (a ∷ bs) (suc x) b e = steps_at w bs x b e

keep_both : (first rest : List Account) → AllKeep first → AllKeep rest → AllKeep (first ++ rest)
keep_both [] rest h k = k
keep_both (a ∷ first) rest h k = (h.0, keep_both first rest h.1 k)

module _ (s : Scenario) (w : World) (h : IsUpheld s w) where
  within : (r : Resource) (x : ℕ) (c : Component) (leaf : Leaf) → is_paid w x c leaf r ≡ true → held r w x leaf ≤ quota r w x c leaf
  within r x c leaf paid =
      let le = leb-true (held r w x leaf + lent r w x) (handed leaf.phase (part r c.node.quantum) + received r w x) paid in omega (arith, le)

  -- of bytes, and of capabilities where they are counted
  both_within : (x : ℕ) (c : Component) (leaf : Leaf) (b : Bool) → are_paid w x c leaf (cond b (Ram ∷ Caps ∷ []) (Ram ∷ [])) ≡ true
      → (held Ram w x leaf ≤ quota Ram w x c leaf) × (cond b (held Caps w x leaf) 0 ≤ cond b (quota Caps w x c leaf) 0)
  both_within x c leaf true paid =
      let p = and_parts (is_paid w x c leaf Ram) (is_paid w x c leaf Caps && true) paid in
      let q = and_parts (is_paid w x c leaf Caps) true p.1 in (within Ram x c leaf p.0, within Caps x c leaf q.0)
  both_within x c leaf false paid = let p = and_parts (is_paid w x c leaf Ram) true paid in (within Ram x c leaf p.0, omega arith)

  -- the account of one leaf
  pub leaf_keeps : (x : ℕ) (c : Component) (leaf : Leaf) → slice_get (components s) x ≡ Some c → slice_get w.leaves x ≡ Some leaf
      → AllKeep (leaf_account s.version w x c leaf (slice_index (all_steps_in w (step_budgets (budgets s))) x) ∷ [])
  leaf_keeps x c leaf placed there =
      let k = h.keeps_budgets x c placed in
      let pays = paid_one (counted_in s.version) w 0 (components s) w.leaves h.is_paid x c leaf placed there x (omega arith) in
      let both = both_within x c leaf (counts_caps s.version) pays in
      let reported = steps_at w (budgets s) x (budget_of s x c) k.reported in
      let same : k.leaf.steps ≡ leaf.steps = ap (λ (l : Leaf). l.steps) (some_same (sym k.there ∙ there)) in
      let few = k.steps in
      (record { bytes = both.0; caps = both.1; steps = omega (arith, few, reported, same) }, tt)

  account_keeps : (x : ℕ) (o : Option Component) (p : Option Leaf) → slice_get (components s) x ≡ o → slice_get w.leaves x ≡ p
      → AllKeep (account_at s.version w x o p (slice_index (all_steps_in w (step_budgets (budgets s))) x))
  account_keeps x (Some c) (Some leaf) e f = leaf_keeps x c leaf e f
  account_keeps x (Some c) None e f = tt
  account_keeps x None p e f = tt

  nodes_keep : (x : ℕ) (label : List ℕ) (nodes : Nodes)
      → AllKeep (node_accounts s.version (system s) w (all_steps_in w (step_budgets (budgets s))) x label nodes)
  nodes_keep x label End = tt
  nodes_keep x label (Leaf_node node rest) = keep_both _ _ (account_keeps x _ _ refl refl) (nodes_keep (suc x) label rest)
  nodes_keep x label (Init_node node children rest) = (
    tt,
    keep_both _ _ (nodes_keep x (below label node.name) children) (nodes_keep (x + leaf_count children) label rest),
  )

  pub upheld_accounts : KeepsAccounts s w
  upheld_accounts = (tt, nodes_keep 0 (codes "init") s.nodes)
