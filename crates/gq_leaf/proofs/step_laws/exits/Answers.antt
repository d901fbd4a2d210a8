-- The end of `main` of a leaf that provides nothing and has no signals.
use Rattle.std.proofs.Common.{refl, sym, ◌∙◌}
use Rattle.gq_model.specs.machine.Step.{main_ended, section_ended}
use Rattle.gq_statements.specs.Slot_statements.{current_seen}
use Rattle.gq_leaf.proofs.Section_start_exit.{exits}
use Rattle.gq_leaf.proofs.Section_end_step.{end_is}
use Rattle.gq_leaf.proofs.Leaf_stance_worlds.{first}
use Rattle.gq_leaf.proofs.step_laws.exits.Goals as goal

pub returns : goal.returns
returns c system f g s x d l bs lawful st active end current reacting provides signals gone =
    let it = first system f s x d l.state bs lawful st.stands in
    record {
      d = it;
      is = record { system_is = refl; world_is = refl; x_is = refl; component_is = refl };
      next_is = end_is system f s x d l bs lawful st active end ∙ (λ k. section_ended it (current_seen (current k)) (reacting k))
          ∙ (λ k. main_ended it (provides k) (signals k));
      released = exits system f s x d l bs lawful st g gone.names (sym st.stands.of.count) gone.exits gone.others;
    }
