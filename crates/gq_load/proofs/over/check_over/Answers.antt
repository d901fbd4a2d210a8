use Rattle.std.proofs.Common.{◌∙◌, Option, arith, subst, sym}
use Rattle.gq_model.specs.rules.Accept.{Refusal}
use Rattle.gq_load.specs.Load_faults.{Prints}
use Rattle.gq_load.specs.Load.{refused}
use Rattle.gq_load.proofs.Over_limit_lists.{over_end, over_here, over_next}
use Rattle.gq_load.proofs.over.check_over.Goals as goal

pub loop-place-preserved : goal.loop-place-preserved
loop-place-preserved c =
    sym (over_next c.args.limit c.args.components.now c.args.budgets.now c.loop-place.place c.index-components-place.result c.index-budgets-place.result
    c.loop-place-test.true (omega arith) c.index-components-place.is c.index-budgets-place.is c.in_default.ensures)
    ∙ c.loop-place.invariant

pub returns-in-Some-clause-refused : goal.returns-in-Some-clause-refused
returns-in-Some-clause-refused c =
    subst (λ (o : Option Refusal). Prints c.in-Some.fault (refused o)) c.loop-place.invariant
    (over_here c.args.limit c.args.components.now c.args.budgets.now c.loop-place.place c.index-components-place.result c.index-budgets-place.result
    c.in-Some.fault c.loop-place-test.true (omega arith) c.index-components-place.is c.index-budgets-place.is c.in-Some.ensures)

pub returns-clause-none : goal.returns-clause-none
returns-clause-none c =
    sym c.loop-place.invariant ∙ over_end c.args.limit c.args.components.now c.args.budgets.now c.loop-place.place c.loop-place-test.false
