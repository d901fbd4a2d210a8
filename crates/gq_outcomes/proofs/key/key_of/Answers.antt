use Rattle.std.proofs.Common.{◌∙◌, ◌++◌, ap, map}
use Rattle.gq_outcomes.specs.Same.{ordered_by}
use Rattle.gq_outcomes.specs.internal.Keys.{list_key, text_key, world_key}
use Rattle.gq_outcomes.proofs.key.key_of.Goals as goal

pub returns : goal.returns
returns c =
    let w = c.args.machine.now.world in
    let order = c.as_slice.ensures.value ∙ c.in_ok-order.ensures in
    let world = c.in_ok-push_world.ensures ∙ λ i. c.new-key.ensures.items i ++ world_key (ordered_by (order i) w) in
    c.in_ok-push_said.ensures ∙ ap (λ t. t ++ list_key text_key (map (λ v. v.items) c.args.said.now)) world
