use Rattle.std.proofs.Common.{refl}
use Rattle.gq_outcomes.proofs.Search_facts.{all_found}
use Rattle.gq_outcomes.specs.internal.Search_states.{nothing_found}
use Rattle.gq_outcomes.proofs.search.search_all.Goals as goal

pub run-requires-clause-search : goal.run-requires-clause-search
run-requires-clause-search c = c.new-search.ensures.search _

pub returns-clause-finds : goal.returns-clause-finds
returns-clause-finds c =
    let w = c.args.walk.now in
    let s = w.world.scenario in
    all_found s w.past.items c.run.new.self c.requires.start
    (c.in_ok-run.ensures.finds nothing_found refl (c.new-search.ensures.at s w.past.items))
