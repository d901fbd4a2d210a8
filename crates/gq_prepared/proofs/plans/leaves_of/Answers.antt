use Rattle.std.proofs.Common.{ℕ, ◌∙◌, map, ap, arith}
use Rattle.gq_model.specs.machine.Scenario.{Scenario}
use Rattle.gq_scenario.specs.Sizes.{leaf_places}
use Rattle.gq_prepared.proofs.Joined_lists.{push_done}
use Rattle.gq_prepared.proofs.Planned_nodes.{map_same}
use Rattle.gq_prepared.proofs.plans.leaves_of.Goals as goal

pub returns : goal.returns
returns c =
    let items = c.deref-place-items.result.now in
    push_done (λ (n : ℕ). n) items (map (λ (n : ℕ). n) items) c.loop-place.place-index c.loop-place.leaves.items (omega (arith, c.loop-place-test.false))
    c.loop-place.invariant
    ∙ map_same items ∙ c.deref-place-items.ensures.value ∙ c.in_ok-places.ensures ∙ ap (λ (s : Scenario). leaf_places 1 s.nodes) c.scenario.ensures
