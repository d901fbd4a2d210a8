use Rattle.std.proofs.Common.{◌≡◌, ◌∙◌, ◌-◌, ◌++◌, ◌∷◌, [], List, ap, subst, take, arith}
use Rattle.gq_outcomes.specs.Outcomes.{Search}
use Rattle.gq_outcomes.specs.internal.Open_branches.{Branch}
use Rattle.gq_outcomes.specs.internal.Search_states.{IsAt, IsAtStack, arrived}
use Rattle.gq_outcomes.proofs.Search_facts.{choice_goes, choice_wanted}
use Rattle.gq_outcomes.proofs.search.Search.choose.Goals as goal

pub returns-then-self-eq0-clause-comes : goal.returns-then-self-eq0-clause-comes
returns-then-self-eq0-clause-comes c u h =
    let w = c.args.walk.now in
    choice_wanted w.world.scenario w.past.items c.args.self.now c.args.turns c.args.leaf u c.if-self-eq0.true h

pub returns-clause-comes : goal.returns-clause-comes
returns-clause-comes c u h =
    let w = c.args.walk.now in
    let s = w.world.scenario in
    let self = c.args.self.now in
    let turns = c.args.turns in
    let x = c.args.leaf in
    let back = c.go_back.new.walk in
    let there = c.take_turn.new.self in
    let later = c.arrive.new.walk.past.items in
    let of : there.world.scenario ≡ s = c.in_ok-take_turn.ensures.walk.walk.scenario ∙ c.in_ok-go_back.ensures.walk.walk.scenario in
    let past : there.past.items ≡ take turns w.past.items ++ x ∷ [] =
    c.in_ok-take_turn.ensures.past ∙ ap (λ l. l ++ x ∷ []) c.in_ok-go_back.ensures.past in
    let mid = record self { left = self.left - 1 } in
    let new = c.arrive.new.self in
    let goes = subst (λ l. (t : Search) (branches : List Branch) → IsAt s l mid t branches → IsAtStack s later new (arrived s l t) branches) past
    (subst (λ z. (t : Search) (branches : List Branch) → IsAt z there.past.items mid t branches → IsAtStack z later new (arrived z there.past.items t) branches)
    of c.in_ok-arrive.ensures.arrived) in
    choice_goes s w.past.items later self new turns x u c.requires.on (omega arith) goes h
