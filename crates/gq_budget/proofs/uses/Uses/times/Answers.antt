use Rattle.std.proofs.Common.{◌≡◌, ℕ, List, [], suc, ap, sym, subst, ◌∙◌}
use Rattle.gq_budget.specs.Causes.{cause_of}
use Rattle.gq_budget.specs.internal.Asking_order.{IsOrder}
use Rattle.gq_budget.specs.internal.Run_rounds.{Asks, Used, rounds}
use Rattle.gq_budget.proofs.uses.Uses.times.Goals as goal

pub returns-in-Some-2 : goal.returns-in-Some-2
returns-in-Some-2 c =
    let cause = cause_of c.args.cause in
    let inside = c.self.inside in
    let asks = c.as_slice-asks.ensures.value in
    let levels = c.as_slice.ensures.value in
    let known : IsOrder inside.asks.items c.in-Some.levels.items inside.longest = rw c.in-Some.is at c.self.invariant in
    let order : IsOrder c.as_slice-asks.result.now c.as_slice.result.now inside.longest =
    subst (λ (l : List Asks). IsOrder l c.as_slice.result.now inside.longest) (sym asks)
    (subst (λ (l : List ℕ). IsOrder inside.asks.items l inside.longest) (sym levels) known) in
    let found = rw c.in-Some-2.is at c.in_ok-often.ensures inside.longest order in
    found ∙ (ap (λ (l : List Asks). rounds cause (suc inside.longest) l []) asks ∙ ap (λ (u : Used). rounds cause (suc u.longest) u.asks []) c.self.view_is)
