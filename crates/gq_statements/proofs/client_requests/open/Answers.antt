use Rattle.std.proofs.Common.{◌≡◌, ◌<◌, ◌≤◌, length, IfSome, sym, subst, ap, ◌∙◌, arith, rules}
use Rattle.gq_model.specs.machine.Requests.{free_place, new_session}
use Rattle.gq_model.specs.machine.Sums.{paid}
use Rattle.gq_contents.specs.declared.content.Content.TheVariants.{Empty}
use Rattle.gq_trade.specs.Seen_sessions.{slot_id_seen}
use Rattle.gq_ram.specs.Account_table.{available, available_caps}
use Rattle.gq_trade.specs.Trading.{fresh, its_account}
use Rattle.gq_trade.specs.Trades.{IsLive}
use Rattle.gq_slots.specs.Slots.{IsMark, Slots, world_seen}
use Rattle.gq_slots.specs.Session_calls.{opening}
use Rattle.gq_statements.proofs.Asking_keeps_sessions.{carries_asked, free_seen, paid_then, reads_content, same_content, same_slot_id}
use Rattle.gq_statements.proofs.Asking_keeps_sessions.{stays_asked, stays_same, stays_then, unpaid_open}
use Rattle.gq_statements.proofs.Lawful_slot_outcomes.{from_err}
use Rattle.gq_statements.proofs.Open_request_worlds.{open_nowhere, open_some, open_unpaid}
use Rattle.gq_statements.proofs.client_requests.open.Goals as goal

pub mark-requires-clause-there : goal.mark-requires-clause-there
mark-requires-clause-there c =
    let s : Slots = c.args.slots.now in
    let q = fresh c.args.actor.leaf c.in-Some.slot_id c.in-Some-server.server c.args.service c.args.donation in
    same_slot_id s _ (carries_asked s.trades.trading q) c.ask.new.slots c.in-Some.slot_id c.in-Ok.ensures.asked c.in-Some.ensures.is.there

pub mark-requires-clause-free : goal.mark-requires-clause-free
mark-requires-clause-free c =
    let s : Slots = c.args.slots.now in
    let q = fresh c.args.actor.leaf c.in-Some.slot_id c.in-Some-server.server c.args.service c.args.donation in
    let same = same_content s _ (carries_asked s.trades.trading q) c.ask.new.slots c.in-Some.slot_id c.in-Ok.ensures.asked c.in-Some.ensures.is.there in
    subst IsMark (sym (same ∙ c.in-Some.ensures.is.content)) tt

pub returns-in_default-clause-step : goal.returns-in_default-clause-step
returns-in_default-clause-step c before after d name n h o b named server gift =
    open_nowhere d c.args.place name n (c.in_default.ensures.found before d h b.world_before)

pub returns-in-Err-clause-step : goal.returns-in-Err-clause-step
returns-in-Err-clause-step c before after d name n h o b named server gift =
    let s : Slots = c.args.slots.now in
    let p = c.in-Some.slot_id in
    let x = c.args.actor.leaf in
    let y = c.in-Some-server.server in
    let is = c.in-Some.ensures.is in
    let sv = subst (λ z. IfSome z (λ k. IsLive s.trades k × (x ≡ k → ⊥))) c.in-Some-server.is c.requires.opens.server in
    let below : x < length s.own = omega (arith, c.requires.asks.live.there, c.lawful.ensures.count) in
    open_unpaid d c.args.place name n p (c.in-Some.ensures.found before d h b.world_before) y (server ∙ c.in-Some-server.is) c.args.donation gift before after s
    b (reads_content after s p Empty c.lawful.ensures is.there is.content)
    ((λ j. paid d.system (opening (world_seen after s) (new_session (h.leaf j) (slot_id_seen p) y name c.args.donation)))
    ∙ unpaid_open d.system after s (new_session x (slot_id_seen p) y name c.args.donation) c.lawful.ensures o below sv.1 c.requires.opens.counted
    (from_err (c.args.donation.ram ≤ available (its_account s.trades.trading x) → available_caps (its_account s.trades.trading x) < c.args.donation.caps)
    c.ask.result _ c.in-Err.is c.ask.ensures.afforded.only))

pub returns-in-Err-clause-leaves : goal.returns-in-Err-clause-leaves
returns-in-Err-clause-leaves c = record {
  stays = stays_same c.args.slots.now c.ask.new.slots c.in-Err.ensures.unchanged;
  unchanged = c.in-Err.ensures.unchanged;
}

pub returns-in-Ok-clause-step : goal.returns-in-Ok-clause-step
returns-in-Ok-clause-step c before after d name n h o b named server gift =
    let s : Slots = c.args.slots.now in
    let u : Slots = c.ask.new.slots in
    let t : Slots = c.mark.new.self in
    let p = c.in-Some.slot_id in
    let x = c.args.actor.leaf in
    let y = c.in-Some-server.server in
    let q = fresh x p y c.args.service c.args.donation in
    let stays = stays_then s u t (stays_asked s u q c.in-Ok.ensures.asked) c.mark.ensures.rest in
    open_some d c.args.place name n p (c.in-Some.ensures.found before d h b.world_before) y (server ∙ c.in-Some-server.is) c.args.donation gift before after s
    b u t c.in-Ok.session
    (c.in-Ok.ensures.world after ∙ (λ z. opening (world_seen after s) (new_session (sym h.leaf z) (slot_id_seen p) y (sym named z) c.args.donation)))
    (c.in-Ok.ensures.number ∙ (sym (free_seen before s) ∙ ap (λ w. free_place w.sessions) (sym b.world_before))) c.mark.ensures
    (paid_then d.system after s t c.lawful.ensures c.lawful-in-Ok.ensures stays o)

pub returns-in-Ok-clause-leaves : goal.returns-in-Ok-clause-leaves
returns-in-Ok-clause-leaves c =
    let s : Slots = c.args.slots.now in
    let u : Slots = c.ask.new.slots in
    let q = fresh c.args.actor.leaf c.in-Some.slot_id c.in-Some-server.server c.args.service c.args.donation in
    record {
      stays = stays_then s u c.mark.new.self (stays_asked s u q c.in-Ok.ensures.asked) c.mark.ensures.rest;
      unchanged = search rules;
    }
