use Rattle.std.proofs.Common.{◌≡◌, ◌<◌, None, ap, sym, subst, ◌∙◌}
use Rattle.std.specs.Prelude.{IfNone, IfSome}
use Rattle.gq_trade.specs.Queues.{oldest_to}
use Rattle.gq_trade.specs.Trading.{session_at}
use Rattle.gq_trade.specs.Trades.{Trades}
use Rattle.gq_slots.specs.Session_calls.{TakesOldest}
use Rattle.gq_statements.proofs.Lawful_slot_outcomes.{lawful}
use Rattle.gq_statements.proofs.Oldest_request_outcomes.{has_is, if_ok, outcome, refusal, takes_oldest, without}
use Rattle.gq_statements.proofs.serving_requests.accept.Goals as goal

pub returns-then-not-has-clause-step : goal.returns-then-not-has-clause-step
returns-then-not-has-clause-step c e f d is same sections begins =
    let s = c.args.slots.now in
    let x = c.args.server in
    let l = c.lawful.ensures in
    let r = c.args.request in
    let first = c.requires.first.oldest in
    let level = c.level-level.ensures ∙ ap (λ (w : Trades). (session_at w.trading r.session).level) c.trades.ensures in
    let within = c.section_asked-section.ensures.section (λ e. subst (λ l. l < 3) (sym level) (c.requires.first.level e)) in
    let has = has_is d c.args.provider.now.sections.now s r c.section_asked-section.result c.level-level.result c.has.result sections
    within c.section_asked-section.ensures.is level c.has.ensures ∙ c.if-not-has.true in
    without d e s x is same l c.laws.ensures.sound r first.rest first.is c.requires.first.there f begins c.args.provider.now.object c.wrong_without.result has
    c.requires.first.its c.requires.knows.object c.wrong_without.ensures

pub returns-in-Err-clause-step : goal.returns-in-Err-clause-step
returns-in-Err-clause-step c e f d is same sections begins =
    let s = c.args.slots.now in
    let x = c.args.server in
    let l = c.lawful.ensures in
    let first = c.requires.first.oldest in
    refusal d e s x is same l c.laws.ensures.sound c.args.request first.rest first.is c.requires.first.there f begins c.accept.result c.in-Err.field-0
    c.in-Err.is
    c.accept.ensures.exceeded c.accept.ensures.caps_exceeded

pub returns-in-Ok-clause-takes : goal.returns-in-Ok-clause-takes
returns-in-Ok-clause-takes c =
    let s = c.args.slots.now in
    let t = c.accept.new.slots in
    let x = c.args.server in
    let none = if_ok (λ o. IfNone o ((oldest_to x s.trades.trading.requests ≡ None) × (t ≡ s))) c.accept.result c.in-Ok.field-0 c.in-Ok.is
    c.accept.ensures.none in
    let some = if_ok (λ o. IfSome o (λ p. TakesOldest s t x p)) c.accept.result c.in-Ok.field-0 c.in-Ok.is c.accept.ensures.some in
    takes_oldest s t x c.args.request c.requires.first.oldest.rest c.in-Ok.field-0 c.requires.first.oldest.is none some

pub returns-in-Ok-clause-step : goal.returns-in-Ok-clause-step
returns-in-Ok-clause-step c e f d is same sections begins =
    let s = c.args.slots.now in
    let x = c.args.server in
    let l = c.lawful.ensures in
    let r = c.args.request in
    let first = c.requires.first.oldest in
    let level = c.level-level.ensures ∙ ap (λ (w : Trades). (session_at w.trading r.session).level) c.trades.ensures in
    let within = c.section_asked-section.ensures.section (λ e. subst (λ l. l < 3) (sym level) (c.requires.first.level e)) in
    let has = has_is d c.args.provider.now.sections.now s r c.section_asked-section.result c.level-level.result c.has.result sections
    within c.section_asked-section.ensures.is level c.has.ensures ∙ c.if-not-has.false in
    let t = c.accept.new.slots in
    let m = c.lawful-in-Ok.ensures in
    outcome d e s x is same l c.laws.ensures.sound r first.rest first.is c.requires.first.there f begins t m has (returns-in-Ok-clause-takes c)
