-- A signal that is submitted.
use Rattle.std.proofs.Common.{sym, ap, ◌∙◌}
use Rattle.gq_model.specs.machine.Run.{signals_with, submit_in}
use Rattle.gq_model.specs.machine.World as world
use Rattle.gq_slots.specs.Slots.{world_seen}
use Rattle.gq_leaf.proofs.Leaf_stance_worlds.{here, leads, shape, there}
use Rattle.gq_leaf.proofs.step_laws.submits.Goals as goal

pub returns : goal.returns
returns c system f g s x d l bs i lawful st e now =
    let leaf = here system f s x d l.state bs lawful st.stands in
    let changed : world.Leaf = record leaf { signals = signals_with leaf.signals i } in
    let is = ap (λ (y : world.Leaf). record y { signals = signals_with y.signals i; slots = leaf.slots; peaks = leaf.peaks })
    (shape system f s x d l.state bs lawful st.stands) in
    sym (ap (submit_in (world_seen f s) x i) (there system f s x d l.state bs lawful st.stands)
    ∙ leads system f s x d l.state bs lawful st.stands g changed e
    (is ∙ sym (ap (λ (y : world.Leaf). record y { slots = leaf.slots; peaks = leaf.peaks }) now)))
