use Rattle.std.proofs.Common.{◌≡◌, ◌∙◌, cond, refl, Bool, true, false, ℕ, Option, IfSome, ap, sym, subst, Some}
use Rattle.std.specs.Prelude.{slice_get, slice_index}
use Rattle.gq_model.specs.machine.Amounts.{Ram, Caps, amount, counts_caps}
use Rattle.gq_model.specs.machine.Sums.{held}
use Rattle.gq_model.specs.machine.World.{Leaf}
use Rattle.gq_model.specs.rules.Accept.{step_budgets}
use Rattle.gq_world.specs.Account_lines.{stored_budgets}
use Rattle.gq_world.proofs.node_accounts.leaf_account.Goals as goal

-- what is counted where the version counts capabilities
only_counted : (version n m : ℕ) → (counts_caps version ≡ true → n ≡ m) → cond (counts_caps version) n 0 ≡ cond (counts_caps version) m 0
only_counted version n m h = by (counts_caps version) refl
  where
    by : (b : Bool) → counts_caps version ≡ b → cond b n 0 ≡ cond b m 0
    by true e = h e
    by false e = refl

pub returns-clause-reports : goal.returns-clause-reports
returns-clause-reports c = λ d leaf at there.
    let s = c.args.machine.now.scenario in
    let w = c.args.machine.now.world in
    let x = c.args.leaf in
    let budget : slice_index (stored_budgets w (step_budgets c.args.budgets.now)) x ≡ c.stored_budget-budget.result = sym c.stored_budget-budget.ensures in
    let read : (Q : Leaf → Type 0) → IfSome (slice_get w.leaves x) Q → Q leaf = λ Q h. subst (λ (o : Option Leaf). IfSome o Q) there h in
    let ram = read (λ l. c.used-held.result.ram ≡ held Ram w x l) c.used-held.ensures.ram in
    let caps = λ (e : counts_caps s.version ≡ true). read (λ l. c.used-held.result.caps ≡ held Caps w x l) (c.used-held.ensures.caps e) in
    let taken = read (λ l. c.held_steps-steps.result ≡ l.steps)
    (subst (λ n. IfSome (slice_get w.leaves x) (λ l. n ≡ l.steps)) (sym c.held_steps-steps.ensures.is) c.steps.ensures) in
    let phase = read (λ l. c.phase.result ≡ l.phase) c.phase.ensures in
    let version = c.version.ensures ∙ (ap (λ s. s.version) c.scenario.ensures ∙ ap (λ s. s.version) c.table.ensures) in
    let counted : c.counted.result ≡ cond (counts_caps s.version) (held Caps w x leaf) 0 =
    c.counted.ensures ∙ (λ j. cond (counts_caps (version j)) c.used-held.result.caps 0)
    ∙ only_counted s.version c.used-held.result.caps (held Caps w x leaf) caps in
    ap Some (sym (c.new.ensures ∙ (λ j. record { used = amount (ram j) (counted j); steps = taken j; budget = sym budget j; phase = phase j })))
