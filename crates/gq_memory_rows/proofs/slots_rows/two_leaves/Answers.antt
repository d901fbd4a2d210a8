use Rattle.std.proofs.Common.{◌≡◌, ℕ, List, [], ◌∷◌, length, replicate, None, refl, ap, ◌∙◌}
use Rattle.std.proofs.lemmas.List.{length-replicate}
use Rattle.gq_contents.specs.declared.content.Content.TheVariants.{Empty}
use Rattle.gq_trade.specs.declared.trade_node.NodeState.{NodeState}
use Rattle.gq_trade.specs.Trades_plan.{IsFirst}
use Rattle.gq_trade.specs.Trades.{IsLive}
use Rattle.gq_slots.specs.Slots.{Slots}
use Rattle.gq_memory_rows.specs.Markets.{live_node}
use Rattle.gq_memory_rows.proofs.Leaves_in_turn.{if_ok}
use Rattle.gq_memory_rows.proofs.Computable_plan_tests.{plan_of, ready_of}
use Rattle.gq_memory_rows.proofs.slots_rows.two_leaves.Goals as goal

pub new-requires-clause-plan : goal.new-requires-clause-plan
new-requires-clause-plan c =
    plan_of 65536 None c.in_ok-plan.ensures.parents
    (c.in_ok-plan.ensures.nodes ∙ (λ k. c.live.ensures k ∷ c.live-2.ensures k ∷ c.live-3.ensures k ∷ []))
    c.in_ok-plan.ensures.leaves c.in_ok-plan.ensures.objects
    (refl, refl, refl, refl, refl, refl, refl, refl, refl, refl, refl, refl, refl, refl, refl, refl)

own_two : (xs : List ℕ) (s : Slots) → xs ≡ 1 ∷ 2 ∷ [] → s.own ≡ replicate (length xs) (replicate 64 Empty) → length s.own ≡ 2
own_two xs s e own = ap length own ∙ length-replicate (length xs) (replicate 64 Empty) ∙ ap length e

abbrev nodes : List NodeState
nodes = live_node 65536 0 ∷ live_node 16384 0 ∷ live_node 16384 0 ∷ []

live_first : (s : Slots) {ps xs os : List ℕ} {ns : List NodeState} → ps ≡ 0 ∷ 0 ∷ 0 ∷ [] → ns ≡ nodes → xs ≡ 1 ∷ 2 ∷ [] → os ≡ 100 ∷ []
    → IsFirst 65536 None ps ns xs os 24 s.trades → IsLive s.trades 0
live_first s a b c d first =
    let r = ready_of 65536 None s.trades 24 0 a b c d first (refl, refl, refl, refl, refl, refl, refl) in
    record { there = r.server.leaf; live = r.server.live }

pub returns-clause-leaves : goal.returns-clause-leaves
returns-clause-leaves c = if_ok c.new.result (λ s own. own_two c.in_ok-plan.plan.leaves.items s c.in_ok-plan.ensures.leaves own) c.new.ensures.own

pub returns-clause-live : goal.returns-clause-live
returns-clause-live c =
    if_ok c.new.result (λ s first. live_first s c.in_ok-plan.ensures.parents
    (c.in_ok-plan.ensures.nodes ∙ (λ k. c.live.ensures k ∷ c.live-2.ensures k ∷ c.live-3.ensures k ∷ []))
    c.in_ok-plan.ensures.leaves c.in_ok-plan.ensures.objects first) c.new.ensures.trades
