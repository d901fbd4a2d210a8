-- A leaf that can not run.
use Rattle.std.proofs.Common.{◌≡◌, Ok, refl, ap, ◌∙◌}
use Rattle.gq_model.specs.declared.phase.Phase.{Phase}
use Rattle.gq_model.specs.declared.phase.Phase.TheVariants as phase
use Rattle.gq_model.specs.machine.Doing.{Doing, Idle}
use Rattle.gq_model.specs.machine.Step.{step_in}
use Rattle.gq_leaf.specs.Idle_phases.{Rests}
use Rattle.gq_leaf.proofs.Leaf_stance_worlds.{first, next_in, phase_is}
use Rattle.gq_leaf.proofs.step_laws.rests.Goals as goal

idle : (d : Doing) (p : Phase) → Rests p → step_in d p ≡ Ok (d.world, Idle)
idle d phase.Pending h = refl
idle d phase.Blocked h = refl
idle d phase.Exited h = refl
idle d phase.Running h = absurd h
idle d phase.Serving h = absurd h
idle d phase.Handling h = absurd h

pub returns : goal.returns
returns c system f s x d l bs lawful st rests =
    next_in system f s x d l.state bs lawful st.stands
    ∙ ap (step_in (first system f s x d l.state bs lawful st.stands)) (phase_is system f s x d l.state bs lawful st.stands)
    ∙ idle (first system f s x d l.state bs lawful st.stands) l.state.phase rests
