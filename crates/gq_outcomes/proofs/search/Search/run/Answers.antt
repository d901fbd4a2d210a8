use Rattle.std.proofs.Common.{[], sym, subst}
use Rattle.gq_outcomes.specs.Outcomes.{explored}
use Rattle.gq_outcomes.specs.internal.Open_branches.{visits}
use Rattle.gq_outcomes.specs.internal.Search_states.{ComesTo}
use Rattle.gq_outcomes.specs.internal.Walks.{reached}
use Rattle.gq_outcomes.proofs.Search_facts.{search_begun}
use Rattle.gq_outcomes.proofs.search.Search.run.Goals as goal

pub returns-clause-finds : goal.returns-clause-finds
returns-clause-finds c t on h =
    let w = c.args.walk.now in
    let s = w.world.scenario in
    let past = w.past.items in
    let new = c.arrive.new.walk in
    let u = visits (explored s) (reached s past) t in
    let comes = search_begun s past new.past.items c.arrive.new.self t on (c.in_ok-arrive.ensures.arrived t [] h) in
    c.take_choices.ensures.finds u (subst (λ z. ComesTo z new.past.items c.arrive.new.self u) (sym c.in_ok-arrive.ensures.walk.walk.scenario) comes)
