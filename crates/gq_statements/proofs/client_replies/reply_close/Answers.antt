use Rattle.std.proofs.Common.{◌<◌, ◌≤◌, ap, sym, subst, ◌∙◌}
use Rattle.gq_model.specs.machine.World as world
use Rattle.gq_trade.specs.Trading.{bytes_then, caps_then, session_at}
use Rattle.gq_trade.specs.Trades.{Trades}
use Rattle.gq_slots.specs.Slot_addresses.{slot_for}
use Rattle.gq_slots.specs.Slots.{IsMark, IsSlotId, content_at}
use Rattle.gq_slots.specs.Calls.{PutsSlot}
use Rattle.gq_slots.specs.Session_calls.{EndsSession}
use Rattle.gq_statements.specs.internal.Content_tests.{are_empty}
use Rattle.gq_statements.proofs.Closed_session_reply.{awaited_beside, close_done, close_refused, close_wrong, still_mark}
use Rattle.gq_statements.proofs.Empty_slot_world.{empty_each}
use Rattle.gq_statements.proofs.Lawful_slot_outcomes.{from_err, from_ok, lawful}
use Rattle.gq_statements.proofs.client_replies.reply_close.Goals as goal

pub returns-then-not-are_empty-clause-closed : goal.returns-then-not-are_empty-clause-closed
returns-then-not-are_empty-clause-closed c f d q level at o h =
    let s = c.args.slots.now in
    let k = c.args.session in
    let is = c.session-slot_id.ensures ∙ ap (λ (w : Trades). session_at w.trading k) c.trades.ensures in
    let l = c.lawful.ensures in
    let e = ap (λ y. are_empty y.slots) (sym is) ∙ (sym c.are_empty.ensures ∙ c.if-not-are_empty.true) in
    close_wrong f d s k q at h l c.requires.awaited e

pub closed-requires-clause-empty : goal.closed-requires-clause-empty
closed-requires-clause-empty c i lt =
    let s = c.args.slots.now in
    let k = c.args.session in
    let is = c.session-slot_id.ensures ∙ ap (λ (w : Trades). session_at w.trading k) c.trades.ensures in
    let e = ap (λ y. are_empty y.slots) (sym is) ∙ (sym c.are_empty.ensures ∙ c.if-not-are_empty.false) in
    empty_each (session_at s.trades.trading k).slots e i

pub returns-in-Err-clause-closed : goal.returns-in-Err-clause-closed
returns-in-Err-clause-closed c f d q level at o h =
    let s = c.args.slots.now in
    let k = c.args.session in
    let is = c.session-slot_id.ensures ∙ ap (λ (w : Trades). session_at w.trading k) c.trades.ensures in
    let l = c.lawful.ensures in
    let e = ap (λ y. are_empty y.slots) (sym is) ∙ (sym c.are_empty.ensures ∙ c.if-not-are_empty.false) in
    let t = s.trades.trading in
    let only = from_err ((session_at t k).donation.ram ≤ bytes_then t k → caps_then t k < (session_at t k).donation.caps) c.closed.result _ c.in-Err.is
    c.closed.ensures.afforded.only in
    close_refused f d s k q at h l c.requires.awaited e c.laws.ensures.sound o only

pub mark-requires-clause-there : goal.mark-requires-clause-there
mark-requires-clause-there c =
    let s = c.args.slots.now in
    let k = c.args.session in
    let is = c.session-slot_id.ensures ∙ ap (λ (w : Trades). session_at w.trading k) c.trades.ensures in
    let l = c.lawful.ensures in
    let m = c.closed.new.slots in
    let lm = c.lawful-in-Ok.ensures in
    let ends = from_ok (EndsSession s m k) c.closed.result _ c.in-Ok.is c.closed.ensures.ends in
    subst (λ y. IsSlotId m y.slot_id) (sym is) (ends.slot_ids (slot_for s k) (awaited_beside s k l.trading c.requires.awaited) c.requires.awaited.slot_id)

pub mark-requires-clause-free : goal.mark-requires-clause-free
mark-requires-clause-free c =
    let s = c.args.slots.now in
    let k = c.args.session in
    let is = c.session-slot_id.ensures ∙ ap (λ (w : Trades). session_at w.trading k) c.trades.ensures in
    let l = c.lawful.ensures in
    let m = c.closed.new.slots in
    let lm = c.lawful-in-Ok.ensures in
    let ends = from_ok (EndsSession s m k) c.closed.result _ c.in-Ok.is c.closed.ensures.ends in
    subst (λ y. IsMark (content_at m y.slot_id)) (sym is) (still_mark s m k l lm c.requires.awaited ends)

pub returns-in-Ok-clause-closed : goal.returns-in-Ok-clause-closed
returns-in-Ok-clause-closed c f d q level at o h =
    let s = c.args.slots.now in
    let k = c.args.session in
    let is = c.session-slot_id.ensures ∙ ap (λ (w : Trades). session_at w.trading k) c.trades.ensures in
    let l = c.lawful.ensures in
    let e = ap (λ y. are_empty y.slots) (sym is) ∙ (sym c.are_empty.ensures ∙ c.if-not-are_empty.false) in
    let m = c.closed.new.slots in
    let lm = c.lawful-in-Ok.ensures in
    let ends = from_ok (EndsSession s m k) c.closed.result _ c.in-Ok.is c.closed.ensures.ends in
    let puts = subst (λ y. PutsSlot m c.mark.new.self y.slot_id world.Empty) is c.mark.ensures in
    close_done f d s k q at h l c.requires.awaited e m c.mark.new.self o lm ends puts

pub returns-in-Ok-clause-ends : goal.returns-in-Ok-clause-ends
returns-in-Ok-clause-ends c =
    let s = c.args.slots.now in
    let k = c.args.session in
    let is = c.session-slot_id.ensures ∙ ap (λ (w : Trades). session_at w.trading k) c.trades.ensures in
    let m = c.closed.new.slots in
    let lm = c.lawful-in-Ok.ensures in
    let ends = from_ok (EndsSession s m k) c.closed.result _ c.in-Ok.is c.closed.ensures.ends in
    let puts = subst (λ y. PutsSlot m c.mark.new.self y.slot_id world.Empty) is c.mark.ensures in
    record { between = m; ends = ends; puts = puts }
