use Rattle.std.proofs.Common.{[], ◌∷◌, Some, refl, ◌∙◌}
use Rattle.gq_memory_rows.proofs.Computable_plan_tests.{plan_of, ready_of}
use Rattle.gq_memory_rows.proofs.trade_rows.pair_with_caps.Goals as goal

pub new-requires-clause-plan : goal.new-requires-clause-plan
new-requires-clause-plan c =
    plan_of 65536 (Some 10) c.in_ok-plan.ensures.parents
    (c.in_ok-plan.ensures.nodes ∙ (λ k. c.live.ensures k ∷ c.live-2.ensures k ∷ c.live-3.ensures k ∷ []))
    c.in_ok-plan.ensures.leaves c.in_ok-plan.ensures.objects
    (refl, refl, refl, refl, refl, refl, refl, refl, refl, refl, refl, refl, refl, refl, refl, refl)

pub new-requires-2-clause-ready : goal.new-requires-2-clause-ready
new-requires-2-clause-ready c =
    ready_of 65536 (Some 10) c.in_ok-new.field-0 24 0 c.in_ok-plan.ensures.parents
    (c.in_ok-plan.ensures.nodes ∙ (λ k. c.live.ensures k ∷ c.live-2.ensures k ∷ c.live-3.ensures k ∷ []))
    c.in_ok-plan.ensures.leaves c.in_ok-plan.ensures.objects c.in_ok-new.ensures
    (refl, refl, refl, refl, refl, refl, refl)
