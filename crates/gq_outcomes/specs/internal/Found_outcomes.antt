-- Outcomes as the code keeps them, with their turns in their order.
use Rattle.gq_outcomes.specs.Outcomes.{Outcome}
use Rattle.gq_outcomes.specs.declared.search.Found.{Found}
use Rattle.gq_outcomes.specs.internal.Turn_rows.{past_of}

abbrev pub outcome_seen : Found → Outcome
outcome_seen f = record { text = f.text.items; past = past_of f.past.items }
