use Rattle.std.proofs.Common.{[], ◌∷◌, None, refl, ◌∙◌, arith}
use Rattle.gq_memory_rows.proofs.Leaves_in_turn.{if_ok}
use Rattle.gq_memory_rows.proofs.Computable_plan_tests.{plan_of, trio_first}
use Rattle.gq_memory_rows.proofs.trade_rows.trio.Goals as goal

pub new-requires-clause-plan : goal.new-requires-clause-plan
new-requires-clause-plan c =
    plan_of 65536 None c.in_ok-plan.ensures.parents
    (c.in_ok-plan.ensures.nodes ∙ (λ k. c.live.ensures k ∷ c.live-2.ensures k ∷ c.live-3.ensures k ∷ c.live-4.ensures k ∷ []))
    c.in_ok-plan.ensures.leaves c.in_ok-plan.ensures.objects
    (refl, refl, refl, refl, refl, refl, refl, refl, refl, refl, refl, refl, refl, refl, refl, refl)

pub returns : goal.returns
returns c =
    if_ok c.new.result
    (trio_first 65536
    (c.in_ok-plan.ensures.nodes ∙ (λ k. c.live.ensures k ∷ c.live-2.ensures k ∷ c.live-3.ensures k ∷ c.live-4.ensures k ∷ []))
    c.in_ok-plan.ensures.leaves c.in_ok-plan.ensures.objects refl (omega arith) (omega arith)) c.new.ensures
