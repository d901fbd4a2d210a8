use Rattle.std.proofs.Common.{◌∷◌, sym, subst}
use Rattle.std.specs.Prelude.{OnOk}
use Rattle.gq_outcomes.specs.Outcomes.{kept}
use Rattle.gq_outcomes.specs.internal.Search_states.{IsAtStack, Notes}
use Rattle.gq_outcomes.specs.internal.Walks.{reached}
use Rattle.gq_outcomes.proofs.Search_facts.{entered_new, entered_seen}
use Rattle.gq_outcomes.proofs.Search_worlds.{key_is}
use Rattle.gq_outcomes.proofs.search.Search.enter_new.Goals as goal

pub enter-requires-clause-search : goal.enter-requires-clause-search
enter-requires-clause-search c = c.in_ok-is_new.ensures.search _ c.requires.search

pub returns-else-is_new-clause-search : goal.returns-else-is_new-clause-search
returns-else-is_new-clause-search c = c.in_ok-is_new.ensures.search _ c.requires.search

pub returns-then-is_new-clause-entered : goal.returns-then-is_new-clause-entered
returns-then-is_new-clause-entered c t branches h =
    let w = c.args.walk.now in
    let s = w.world.scenario in
    let past = w.past.items in
    let k = kept (reached s past) in
    let key = key_is s w c.requires.walk c.machine.result.now c.machine.ensures.is c.as_slice.result.now c.in_ok-key.key.items c.in_ok-key.ensures
    c.as_slice.ensures.value in
    let notes = subst (λ b. Notes b s past c.note.new.self k t branches) c.if-is_new.true (c.in_ok-is_new.ensures.notes s past k t branches key h) in
    subst (λ r. OnOk c.enter.result (IsAtStack s past c.enter.new.self r branches)) (sym (entered_new s past t notes.0))
    (c.enter.ensures.opened (record t { seen = k ∷ t.seen }) branches notes.1)

pub returns-else-is_new-clause-entered : goal.returns-else-is_new-clause-entered
returns-else-is_new-clause-entered c t branches h =
    let w = c.args.walk.now in
    let s = w.world.scenario in
    let past = w.past.items in
    let k = kept (reached s past) in
    let key = key_is s w c.requires.walk c.machine.result.now c.machine.ensures.is c.as_slice.result.now c.in_ok-key.key.items c.in_ok-key.ensures
    c.as_slice.ensures.value in
    let notes = subst (λ b. Notes b s past c.note.new.self k t branches) c.if-is_new.false (c.in_ok-is_new.ensures.notes s past k t branches key h) in
    subst (λ r. IsAtStack s past c.note.new.self r branches) (sym (entered_seen s past t notes.0)) notes.1
