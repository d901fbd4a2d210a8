use Rattle.gq_outcomes.proofs.Leaf_names.{leaves_have_names}
use Rattle.gq_outcomes.proofs.Outcome_lists.{all_lead_back}
use Rattle.gq_outcomes.proofs.laws.turn_list_laws.Goals as goal

pub returns : goal.returns
returns c = record { leads = λ text s loads. all_lead_back s (c.loaded_laws.ensures.sound text s loads) (leaves_have_names text s loads) }
