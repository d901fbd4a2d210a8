use Rattle.std.proofs.Common.{◌∙◌, ap, not, sym, subst, length}
use Rattle.std.specs.Prelude.{OnOk}
use Rattle.gq_model.specs.machine.Scenario.{components}
use Rattle.gq_outcomes.specs.internal.Search_states.{IsAt, IsAtStack, IsSearch, entered}
use Rattle.gq_outcomes.proofs.Search_facts.{settle_enters, settle_wants}
use Rattle.gq_outcomes.proofs.Search_worlds.{settled_is}
use Rattle.gq_outcomes.proofs.search.Search.arrive.Goals as goal

pub enter_new-requires-clause-search : goal.enter_new-requires-clause-search
enter_new-requires-clause-search c =
    let mid = record c.args.self.now { left = c.in_ok-left.left } in
    subst (λ z. IsSearch (length (components z)) mid) (sym c.in_ok-left.ensures.walk.walk.scenario)
    (record { branches = c.requires.search.branches; found = c.requires.search.found })

pub returns-clause-search : goal.returns-clause-search
returns-clause-search c =
    subst (λ z. OnOk c.enter_new.result (IsSearch (length (components z)) c.enter_new.new.self)) c.in_ok-left.ensures.walk.walk.scenario
    c.enter_new.ensures.search

pub returns-then-some_settle-clause-arrived : goal.returns-then-some_settle-clause-arrived
returns-then-some_settle-clause-arrived c t branches h =
    let w = c.args.walk.now in
    let s = w.world.scenario in
    let new = c.settle.new.self in
    let comes = c.in_ok-left.ensures.comes in
    let is = settled_is s new c.in_ok-left.ensures.walk c.machine.result.now c.machine.ensures.is c.some_settle.result c.some_settle.ensures in
    settle_wants s w.past.items comes.more new.past.items c.in_ok-left.left c.args.self.now t branches comes.past comes.is
    (is ∙ ap not c.if-some_settle.true) h

pub returns-clause-arrived : goal.returns-clause-arrived
returns-clause-arrived c t branches h =
    let w = c.args.walk.now in
    let s = w.world.scenario in
    let new = c.settle.new.self in
    let left = c.in_ok-left.left in
    let comes = c.in_ok-left.ensures.comes in
    let is = settled_is s new c.in_ok-left.ensures.walk c.machine.result.now c.machine.ensures.is c.some_settle.result c.some_settle.ensures in
    let enters = settle_enters s w.past.items comes.more new.past.items left c.args.self.now t branches comes.past comes.is
    (is ∙ ap not c.if-some_settle.false) h in
    let of = c.in_ok-left.ensures.walk.walk.scenario in
    let mid = record c.args.self.now { left = left } in
    let later = record t { left = left } in
    subst (λ r. OnOk c.enter_new.result (IsAtStack s new.past.items c.enter_new.new.self r branches)) (sym enters.1)
    (subst (λ z. IsAt z new.past.items mid later branches
    → OnOk c.enter_new.result (IsAtStack z new.past.items c.enter_new.new.self (entered z new.past.items later) branches)) of
    (c.enter_new.ensures.entered later branches) enters.0)
