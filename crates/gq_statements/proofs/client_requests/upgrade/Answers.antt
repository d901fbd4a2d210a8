use Rattle.std.proofs.Common.{◌<◌, ◌≤◌, sym, subst, ◌∙◌, rules}
use Rattle.gq_contents.specs.declared.content.Content.TheVariants.{Link}
use Rattle.gq_ram.specs.Account_table.{available, available_caps}
use Rattle.gq_trade.specs.Trading.{client_of, its_account}
use Rattle.gq_slots.specs.Slots.{IsMark, Slots}
use Rattle.gq_statements.proofs.Requested_machine_worlds.{upgrade_none, upgrade_some, upgrade_unpaid}
use Rattle.gq_statements.proofs.Lawful_slot_outcomes.{from_err}
use Rattle.gq_statements.proofs.Asking_keeps_sessions.{carries_upgraded, its_session, paid_then, reads_content, same_slot_id, same_content, session_found}
use Rattle.gq_statements.proofs.Asking_keeps_sessions.{stays_then}
use Rattle.gq_statements.proofs.Asking_keeps_sessions.{stays_upgraded}
use Rattle.gq_statements.proofs.Asking_keeps_sessions.{unpaid_upgrade}
use Rattle.gq_statements.proofs.client_requests.upgrade.Goals as goal

pub mark-requires-clause-there : goal.mark-requires-clause-there
mark-requires-clause-there c =
    let s : Slots = c.args.slots.now in
    let k = c.in-Some.session in
    same_slot_id s _ (carries_upgraded s.trades.trading k c.args.donation c.in-Some.ensures.is.taken) c.upgrade.new.slots c.in-Some.slot_id
    c.in-Ok.ensures.upgraded c.in-Some.ensures.is.there

pub mark-requires-clause-free : goal.mark-requires-clause-free
mark-requires-clause-free c =
    let s : Slots = c.args.slots.now in
    let k = c.in-Some.session in
    let same = same_content s _ (carries_upgraded s.trades.trading k c.args.donation c.in-Some.ensures.is.taken) c.upgrade.new.slots c.in-Some.slot_id
    c.in-Ok.ensures.upgraded c.in-Some.ensures.is.there in
    subst IsMark (sym (same ∙ c.in-Some.ensures.is.content)) tt

pub returns-in_default-clause-step : goal.returns-in_default-clause-step
returns-in_default-clause-step c before after d n h o b next = upgrade_none d c.args.place n (c.in_default.ensures.found before d h b.world_before)

pub returns-in-Err-clause-step : goal.returns-in-Err-clause-step
returns-in-Err-clause-step c before after d n h o b next =
    let s : Slots = c.args.slots.now in
    let p = c.in-Some.slot_id in
    let k = c.in-Some.session in
    let is = c.in-Some.ensures.is in
    let a = its_account s.trades.trading (client_of s.trades.trading k) in
    upgrade_unpaid d c.args.place p k (c.in-Some.ensures.found before d h b.world_before) before after s (its_session before s k)
    (session_found before s k is.taken) b n c.args.donation next (its_session after s k) (session_found after s k is.taken)
    (reads_content after s p (Link k) c.lawful.ensures is.there is.content)
    (unpaid_upgrade d.system after s k c.args.donation c.lawful.ensures o is.taken c.requires.counted
    (from_err (c.args.donation.ram ≤ available a → available_caps a < c.args.donation.caps) c.upgrade.result _ c.in-Err.is c.upgrade.ensures.afforded.only))

pub returns-in-Ok-clause-step : goal.returns-in-Ok-clause-step
returns-in-Ok-clause-step c before after d n h o b next =
    let s : Slots = c.args.slots.now in
    let u : Slots = c.upgrade.new.slots in
    let t : Slots = c.mark.new.self in
    let p = c.in-Some.slot_id in
    let k = c.in-Some.session in
    let is = c.in-Some.ensures.is in
    let stays = stays_then s u t (stays_upgraded s u k c.args.donation is.taken c.in-Ok.ensures.upgraded) c.mark.ensures.rest in
    upgrade_some d c.args.place p k (c.in-Some.ensures.found before d h b.world_before) before after s (its_session before s k)
    (session_found before s k is.taken) b n c.args.donation next u t (c.in-Ok.ensures.world after) c.mark.ensures
    (paid_then d.system after s t c.lawful.ensures c.lawful-in-Ok.ensures stays o)

pub returns-in-Ok-clause-leaves : goal.returns-in-Ok-clause-leaves
returns-in-Ok-clause-leaves c =
    let s : Slots = c.args.slots.now in
    let u : Slots = c.upgrade.new.slots in
    record {
      stays = stays_then s u c.mark.new.self (stays_upgraded s u c.in-Some.session c.args.donation c.in-Some.ensures.is.taken c.in-Ok.ensures.upgraded)
          c.mark.ensures.rest;
      unchanged = search rules;
    }
