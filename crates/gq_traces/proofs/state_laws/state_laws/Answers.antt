-- Sessions, slots and sums agree in every world that is reached, and so do what inits are given and what they hand on.
use Rattle.std.proofs.Common.{true}
use Rattle.gq_laws.proofs.upheld_worlds.Reached_world_induction.{in_reached}
use Rattle.gq_laws.specs.Stands.{Stands}
use Rattle.gq_world.proofs.World_account_lines.{leaf_there}
use Rattle.gq_traces.specs.Made_of.{after}
use Rattle.gq_traces.proofs.Added_up.{leaves_add_up}
use Rattle.gq_traces.proofs.Inits_added.{inits_add_up}
use Rattle.gq_traces.proofs.Node_names.{loaded_named}
use Rattle.gq_traces.proofs.Nodes_added.{all_add, shows_sums}
use Rattle.gq_traces.proofs.Printed_run.{last_reached, last_world}
use Rattle.gq_traces.proofs.state_laws.state_laws.Goals as goal

pub returns : goal.returns
returns c first scenario turns text =
    shows_sums first scenario turns text
    (λ s loads taken.
    last_world s (c.loaded_laws.ensures.sound scenario s loads) (loaded_named scenario s loads)
    (λ w reached. c.accepted_laws.ensures.upheld s w (c.loaded_laws.ensures.sound scenario s loads) reached)
    (λ w reached. c.accepted_laws.ensures.typed s w (c.loaded_laws.ensures.sound scenario s loads) reached)
    (λ w x. c.turn_laws.ensures.counted _ w x) true taken)
    (λ s loads taken. (
    let sound = c.loaded_laws.ensures.sound scenario s loads in
    let t = after s taken in
    let reached = last_reached s sound (loaded_named scenario s loads) (λ w reached. c.accepted_laws.ensures.upheld s w sound reached)
    (λ w reached. c.accepted_laws.ensures.typed s w sound reached) (λ w x. c.turn_laws.ensures.counted _ w x) true taken in
    let stands = in_reached s (Stands s) (λ v x new event. c.accepted_laws.ensures.kept s v x new event)
    (λ v x i n. c.accepted_laws.ensures.set s v x i n) (λ v x i. c.accepted_laws.ensures.submitted s v x i) (c.accepted_laws.ensures.first s sound) t.world
    reached in
    all_add s t
    (leaves_add_up s t.world (c.reached_laws.ensures.linked s t.world reached) (c.reached_laws.ensures.paid s t.world sound.formed.differ reached))
    (leaf_there s t.world stands.whole.count)
    (inits_add_up s t.world stands)))
