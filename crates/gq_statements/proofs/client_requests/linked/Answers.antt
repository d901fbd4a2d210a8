use Rattle.std.proofs.Common.{◌<◌, length, sym, subst, ◌∙◌, arith}
use Rattle.gq_slots.specs.Slots.{Slots}
use Rattle.gq_statements.specs.Slot_statements.{current_seen}
use Rattle.gq_statements.specs.internal.Named_slots.{IsLinkedAt}
use Rattle.gq_statements.proofs.Named_statement_link.{link_named, link_content, names_slot, other_named, slot_or_object}
use Rattle.gq_statements.proofs.client_requests.linked.Goals as goal

pub returns-in_err-session-clause-found : goal.returns-in_err-session-clause-found
returns-in_err-session-clause-found c f d h we =
    subst (IsLinkedAt d c.args.place) (sym c.from_residual-in_err-session.ensures)
    (other_named d c.args.actor c.args.place f c.args.slots.now h we c.in_ok-slot_id.slot_id c.content.result c.in_ok-slot_id.ensures.is
    (c.content.ensures.reads f)
    (sym c.link_of.ensures ∙ c.in_err-session.was))

pub returns-clause-is : goal.returns-clause-is
returns-clause-is c =
    let s : Slots = c.args.slots.now in
    let p = c.in_ok-slot_id.slot_id in
    let k = c.in_ok-session.session in
    let leaf : c.args.actor.leaf < length s.own = omega (arith, c.requires.actor.live.there, c.laws.ensures.leaves) in
    let at = c.in_ok-slot_id.ensures.there s leaf (slot_or_object c.args.place c.requires.place) c.requires.actor.current in
    let content = sym c.content.ensures.is ∙ link_content c.content.result k c.in_ok-session.ensures in
    let l = c.requires.linked p at.0 at.1 k content in
    record {
      there = at.0;
      slot = names_slot c.args.place c.args.actor.leaf (current_seen c.args.actor.current) p c.requires.place c.in_ok-slot_id.ensures.is;
      content = content;
      taken = l.0;
      client = l.1;
    }

pub returns-clause-found : goal.returns-clause-found
returns-clause-found c f d h we =
    link_named d c.args.actor c.args.place f c.args.slots.now h we c.in_ok-slot_id.slot_id c.content.result c.in_ok-slot_id.ensures.is
    (c.content.ensures.reads f)
    c.in_ok-session.session c.in_ok-session.ensures
