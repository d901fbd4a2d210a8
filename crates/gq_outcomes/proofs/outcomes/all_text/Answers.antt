use Rattle.std.proofs.Common.{Ok}
use Rattle.gq_outcomes.specs.Outcomes.{outcomes}
use Rattle.gq_outcomes.specs.Text.{search_text}
use Rattle.gq_outcomes.proofs.Outcome_endings.{outcomes_are, passed_on}
use Rattle.gq_outcomes.proofs.outcomes.all_text.Goals as goal

pub returns-clause-text : goal.returns-clause-text
returns-clause-text c =
    outcomes_are c.args.scenario.now c.in_ok-walk.walk.world.scenario c.in_ok-search.search c.in_ok-text.text.items c.in_ok-walk.ensures.loaded
    c.in_ok-search.ensures.finds c.in_ok-text.ensures

pub returns-in_err-search-clause-refused : goal.returns-in_err-search-clause-refused
returns-in_err-search-clause-refused c =
    passed_on c.from_residual-in_err-search.result c.in_err-search.field-0.0 c.args.scenario.now (λ s. Ok (search_text (outcomes s)))
    c.from_residual-in_err-search.ensures.1 c.in_err-search.ensures.refused
