use Rattle.std.proofs.Common.{[], ◌∷◌, None, refl, ◌∙◌}
use Rattle.gq_memory_rows.proofs.Leaves_in_turn.{if_ok, line_first}
use Rattle.gq_memory_rows.proofs.Computable_plan_tests.{plan_of}
use Rattle.gq_memory_rows.proofs.trade_rows.line.Goals as goal

pub new-requires-clause-plan : goal.new-requires-clause-plan
new-requires-clause-plan c =
    plan_of 8192 None c.in_ok-plan.ensures.parents
    (c.in_ok-plan.ensures.nodes ∙ (λ k. c.live.ensures k ∷ c.live-2.ensures k ∷ c.pending.ensures k ∷ c.pending-2.ensures k ∷ []))
    c.in_ok-plan.ensures.leaves c.in_ok-plan.ensures.objects
    (refl, refl, refl, refl, refl, refl, refl, refl, refl, refl, refl, refl, refl, refl, refl, refl)

pub returns : goal.returns
returns c =
    if_ok c.new.result
    (line_first 8192 None 24
    (c.in_ok-plan.ensures.nodes ∙ (λ k. c.live.ensures k ∷ c.live-2.ensures k ∷ c.pending.ensures k ∷ c.pending-2.ensures k ∷ []))
    c.in_ok-plan.ensures.leaves) c.new.ensures
