use Rattle.std.proofs.Common.{refl, sym, ap, ◌∙◌}
use Rattle.gq_budget.specs.Causes.{cause_of}
use Rattle.gq_budget.specs.internal.Run_rounds.{round}
use Rattle.gq_budget.proofs.Ordered_stable_round.{ordered}
use Rattle.gq_budget.proofs.use_levels.in_order.Goals as goal

pub returns-then-are_same : goal.returns-then-are_same
returns-then-are_same c = λ uses order.
    let cause = cause_of c.args.cause in
    let asks = c.args.asks.now in
    let table = c.in_ok-table.table.items in
    let next = c.in_ok-next.ensures ∙ ap (round cause asks) c.deref.ensures.value in
    let same = sym c.deref-2.ensures.value ∙ (c.if-are_same.ensures refl ∙ c.deref-3.ensures.value) in
    ordered cause asks table c.args.levels.now uses (sym same ∙ next) order
