use Rattle.std.proofs.Common.{◌≡◌, ◌<◌, sym, subst, true, inl, inr, length}
use Rattle.std.proofs.lemmas.Bool.{cases_Bool}
use Rattle.gq_model.specs.machine.Scenario.{components}
use Rattle.gq_outcomes.specs.internal.Search_states.{IsSearch}
use Rattle.gq_outcomes.proofs.Search_facts.{search_cut}
use Rattle.gq_outcomes.proofs.search.Search.take_choices.Goals as goal

pub returns-in_default-clause-search : goal.returns-in_default-clause-search
returns-in_default-clause-search c = c.in_default.ensures.search _ c.loop-self.invariant.search

pub returns-in_default-clause-finds : goal.returns-in_default-clause-finds
returns-in_default-clause-finds c u h =
    let w = c.args.walk.now in
    c.in_default.ensures.none w.world.scenario c.loop-self.walk.past.items u (c.loop-self.invariant.comes u h)

pub choose-requires-clause-search : goal.choose-requires-clause-search
choose-requires-clause-search c =
    subst (λ s. IsSearch (length (components s)) c.next_choice.new.self) (sym c.loop-self.invariant.walk.walk.scenario)
    (c.next_choice.ensures.search _ c.loop-self.invariant.search)

pub choose-requires-clause-leaf : goal.choose-requires-clause-leaf
choose-requires-clause-leaf c =
    subst (λ s. c.in-Some.next.1 < length (components s)) (sym c.loop-self.invariant.walk.walk.scenario)
    (c.in-Some.ensures.leaf _ c.loop-self.invariant.search)

pub returns-clause-finds : goal.returns-clause-finds
returns-clause-finds c u h =
    let is : c.loop-self.self.cut ≡ true = elim (cases_Bool c.loop-self.self.cut) [ inl t ↦ t | inr f ↦ absurd (cc (f, c.loop-self-test.false)) ] in
    search_cut c.args.walk.now.world.scenario c.loop-self.walk.past.items c.loop-self.self u is (c.loop-self.invariant.comes u h)
