-- A leaf that serves and of whose signals none is submitted.
use Rattle.std.proofs.Common.{refl, ap, ◌∙◌}
use Rattle.gq_model.specs.machine.Step.{first_signal, serve, step_in}
use Rattle.gq_model.specs.machine.World as world
use Rattle.gq_leaf.proofs.Section_start_exit.{begins}
use Rattle.gq_leaf.proofs.Leaf_stance_worlds.{first, next_in, phase_is, shape}
use Rattle.gq_leaf.proofs.step_laws.accepts.Goals as goal

pub returns : goal.returns
returns c system f s x d l bs lawful st serving none =
    let it = first system f s x d l.state bs lawful st.stands in
    record {
      d = it;
      is = record { system_is = refl; world_is = refl; x_is = refl; component_is = refl };
      next_is = next_in system f s x d l.state bs lawful st.stands ∙ ap (step_in it) (phase_is system f s x d l.state bs lawful st.stands ∙ serving)
          ∙ ap (serve it) (ap (λ (y : world.Leaf). first_signal y.signals) (shape system f s x d l.state bs lawful st.stands) ∙ none);
      begins = λ g h ops e now. begins system f s x d l bs lawful st g h ops e now;
    }
