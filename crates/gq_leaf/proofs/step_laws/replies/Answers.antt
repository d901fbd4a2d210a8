-- The reply at the end of a section.
use Rattle.std.proofs.Common.{refl, ap, ◌∙◌}
use Rattle.gq_model.specs.declared.fault.Wrong.TheVariants.{WrongKind}
use Rattle.gq_model.specs.machine.Doing.{need}
use Rattle.gq_model.specs.machine.Step.{reply, section_ended}
use Rattle.gq_model.specs.machine.World as world
use Rattle.gq_statements.specs.Slot_statements.{current_seen}
use Rattle.gq_leaf.proofs.Section_end_step.{end_is, goes_on}
use Rattle.gq_leaf.proofs.Leaf_stance_worlds.{first, shape}
use Rattle.gq_leaf.proofs.step_laws.replies.Goals as goal

pub returns : goal.returns
returns c system f g s x y d e l bs h q client ops lawful st active end current at is apart below stood blocked replied =
    let it = first system f s x d l.state bs lawful st.stands in
    record {
      d = it;
      is = record { system_is = refl; world_is = refl; x_is = refl; component_is = refl };
      operands = ap (λ (z : world.Leaf). z.operands) (shape system f s x d l.state bs lawful st.stands);
      next_is = end_is system f s x d l bs lawful st active end ∙ ap (λ o. section_ended it (current_seen o) l.state.reacting) current
          ∙ ap (λ o. need o WrongKind (reply it h.session h.section)) at;
      goes_on = λ F made. goes_on system f s x d l bs lawful st active end g y e client ops apart below stood blocked replied.names replied.others
          replied.serves replied.goes_on q F is made;
    }
