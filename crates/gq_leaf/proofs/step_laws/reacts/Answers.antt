-- A leaf that serves takes a signal.
use Rattle.std.proofs.Common.{Ok, ap, ◌∙◌}
use Rattle.gq_model.specs.declared.fault.Wrong.TheVariants.{MissingSection}
use Rattle.gq_model.specs.machine.Doing.{Quiet, need, standing}
use Rattle.gq_model.specs.machine.Step.{first_signal, reacting_to, serve, step_in}
use Rattle.gq_model.specs.machine.World as world
use Rattle.gq_leaf.proofs.Section_start_exit as starting
use Rattle.gq_leaf.proofs.Leaf_stance_worlds.{first, next_in, phase_is, shape}
use Rattle.gq_leaf.proofs.step_laws.reacts.Goals as goal

pub returns-clause-taken : goal.returns-clause-taken
returns-clause-taken c system f g s x d l bs i signals body lawful st serving current there found e now =
    let it = first system f s x d l.state bs lawful st.stands in
    next_in system f s x d l.state bs lawful st.stands ∙ ap (step_in it) (phase_is system f s x d l.state bs lawful st.stands ∙ serving)
    ∙ ap (serve it) (ap (λ (y : world.Leaf). first_signal y.signals) (shape system f s x d l.state bs lawful st.stands) ∙ there)
    ∙ ap (λ o. need o MissingSection (λ b. Ok (standing it (reacting_to it.leaf i signals b), Quiet))) found
    ∙ ap (λ w. Ok (w, Quiet)) (starting.reacts system f s x d l bs lawful st i signals body current found g e now)

pub returns-clause-missing : goal.returns-clause-missing
returns-clause-missing c system f s x d l bs i signals lawful st serving there found =
    let it = first system f s x d l.state bs lawful st.stands in
    next_in system f s x d l.state bs lawful st.stands ∙ ap (step_in it) (phase_is system f s x d l.state bs lawful st.stands ∙ serving)
    ∙ ap (serve it) (ap (λ (y : world.Leaf). first_signal y.signals) (shape system f s x d l.state bs lawful st.stands) ∙ there)
    ∙ ap (λ o. need o MissingSection (λ b. Ok (standing it (reacting_to it.leaf i signals b), Quiet))) found
