use Rattle.std.proofs.Common.{sym, ap, ◌∙◌}
use Rattle.gq_budget.specs.Causes.{cause_of}
use Rattle.gq_budget.specs.internal.Run_rounds.{round}
use Rattle.gq_budget.proofs.Stable_last_round.{rounds_end}
use Rattle.gq_budget.proofs.rounds.rounds.Goals as goal

pub returns-then-are_same : goal.returns-then-are_same
returns-then-are_same c =
    let l = c.loop-use in
    let next = c.in_ok-next.ensures ∙ ap (round (cause_of c.args.cause) c.args.asks.now) c.deref.ensures.value in
    let same = sym c.deref-in-loop-use.ensures.value ∙ (c.are_same.ensures c.if-are_same.true ∙ c.deref-in-loop-use-2.ensures.value) in
    rounds_end (cause_of c.args.cause) c.args.asks.now l.often.items c.in_ok-next.next.items l._use c.args.uses c.loop-use-test.true l.invariant next same
