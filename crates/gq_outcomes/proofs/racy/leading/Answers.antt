use Rattle.std.proofs.Common.{◌≡◌, ◌+◌, ◌∙◌, suc, ap, arith}
use Rattle.gq_model.specs.machine.Scenario.{components}
use Rattle.gq_outcomes.specs.internal.Racy.{leading, with_users}
use Rattle.gq_outcomes.proofs.racy.leading.Goals as goal

pub loop-round-preserved : goal.loop-round-preserved
loop-round-preserved c =
    let cs = components c.args.table.now in
    let marked = c.args.marked.now in
    let n = c.loop-round._round in
    let on : suc n ≡ n + 1 = omega arith in
    c.in_ok-found-2.ensures ∙ ap (λ found. with_users cs marked found 0 cs) (c.as_slice.ensures.value ∙ c.loop-round.invariant) ∙ ap (λ n. leading n cs marked)
    on
