use Rattle.std.proofs.Common.{◌≡◌, ℕ, List, Option, IfSome, sym, subst}
use Rattle.std.specs.Prelude.{slice_get}
use Rattle.gq_model.specs.machine.Accounts.{accounts}
use Rattle.gq_model.specs.machine.Scenario.{Scenario}
use Rattle.gq_model.specs.machine.World.{World}
use Rattle.gq_model.specs.rules.Accept.{step_budgets}
use Rattle.gq_resolve.specs.NodeTables.{node_rows}
use Rattle.gq_world.specs.Account_lines.{accounts_by, stored_budgets}
use Rattle.gq_world.proofs.World_account_lines.{LeafRead, account_at_node, leaf_within, reported_is}
use Rattle.gq_world.proofs.node_accounts.account_of.Goals as goal
use Rattle.gq_world.proofs.node_accounts.account_of.Goals.{in-Some, in-None}

pub leaf_account-requires-clause-leaf : goal.leaf_account-requires-clause-leaf
leaf_account-requires-clause-leaf c =
    let s = c.args.machine.now.scenario in
    let w = c.args.machine.now.world in
    let reported = stored_budgets w (step_budgets c.args.budgets.now) in
    let n = c.args.node in
    let p = account_at_node s w reported c.requires.leaves n c.requires.node in
    let P : Scenario → Type 0 = λ s. IfSome (slice_get (node_rows s) n) (λ r. c.leaf.result ≡ r.leaf) in
    leaf_within s w reported (accounts_by s w reported) n p c.leaf.result c.in-Some.leaf (subst P c.table.ensures c.leaf.ensures) c.in-Some.is

-- an account as the machine reports it
ram_of : (s : Scenario) (w : World) (reported : List ℕ) (n q : ℕ) → IfSome (slice_get (accounts s w reported) n) (λ a. q ≡ a.quota.ram)
    → IfSome (slice_get (accounts_by s w reported) n) (λ a. q ≡ a.quota.ram)
unfolding accounts_by
ram_of s w reported n q h = h

caps_of : (s : Scenario) (w : World) (reported : List ℕ) (n q : ℕ) → IfSome (slice_get (accounts s w reported) n) (λ a. q ≡ a.quota.caps)
    → IfSome (slice_get (accounts_by s w reported) n) (λ a. q ≡ a.quota.caps)
unfolding accounts_by
caps_of s w reported n q h = h

pub returns-clause-reported : goal.returns-clause-reported
returns-clause-reported c =
    let s = c.args.machine.now.scenario in
    let w = c.args.machine.now.world in
    let reported = stored_budgets w (step_budgets c.args.budgets.now) in
    let n = c.args.node in
    let p = account_at_node s w reported c.requires.leaves n c.requires.node in
    let ram = ram_of s w reported n c.quota-quota.result.ram (c.quota-quota.ensures.ram reported) in
    let caps = caps_of s w reported n c.quota-quota.result.caps (c.quota-quota.ensures.caps reported) in
    let P : Scenario → Type 0 = λ s. IfSome (slice_get (node_rows s) n) (λ r. c.leaf.result ≡ r.leaf) in
    let found = subst P c.table.ensures c.leaf.ensures in
    let leaf = c.match-leaf.leaf in
    let read : LeafRead s w reported c.leaf.result leaf = elim c.match-leaf.branch [
      | in-Some b ↦ subst (λ (o : Option ℕ). LeafRead s w reported o leaf) (sym b.in-Some.is) (b.leaf_account.result, b.leaf-is, b.leaf_account.ensures.reports)
      | in-None b ↦ subst (λ (o : Option ℕ). LeafRead s w reported o leaf) (sym b.in-None.is) b.leaf-is
    ] in
    reported_is s w reported (accounts_by s w reported) n p c.quota-quota.result.ram c.quota-quota.result.caps c.leaf.result leaf c.new.result c.new.ensures
    ram caps found read
