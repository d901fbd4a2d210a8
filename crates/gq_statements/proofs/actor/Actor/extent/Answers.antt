use Rattle.std.proofs.Common.{◌<◌, length, arith}
use Rattle.gq_trade.specs.declared.session.SlotId.{SlotId}
use Rattle.gq_slots.specs.Slots.{IsSlotId, Slots}
use Rattle.gq_slots.specs.Slot_addresses.{place_of}
use Rattle.gq_statements.proofs.Named_statement_bytes.{found_behind, is_extent_at}
use Rattle.gq_statements.proofs.actor.Actor.extent.Goals as goal

pub extent-requires : goal.extent-requires
extent-requires c =
    let s : Slots = c.args.slots.now in
    let lt : c.args.self.leaf < length s.own = omega (arith, c.laws.ensures.leaves, c.requires.actor.live.there) in
    (c.in_ok-named.ensures.there s lt c.requires.place c.requires.actor.current).0

pub returns-clause-is : goal.returns-clause-is
returns-clause-is c =
    let s : Slots = c.args.slots.now in
    let p : SlotId = c.in_ok-named.named in
    let lt : c.args.self.leaf < length s.own = omega (arith, c.laws.ensures.leaves, c.requires.actor.live.there) in
    let there : IsSlotId s p = (c.in_ok-named.ensures.there s lt c.requires.place c.requires.actor.current).0 in
    is_extent_at s (place_of c.args.addresses.now s p) c.extent.result (c.laws-2.ensures.there p there) c.extent.ensures

pub returns-clause-found : goal.returns-clause-found
returns-clause-found c f d h b =
    let s : Slots = c.args.slots.now in
    let p : SlotId = c.in_ok-named.named in
    let lt : c.args.self.leaf < length s.own = omega (arith, c.laws.ensures.leaves, c.requires.actor.live.there) in
    let there : IsSlotId s p = (c.in_ok-named.ensures.there s lt c.requires.place c.requires.actor.current).0 in
    found_behind d c.args.self f s c.args.addresses.now c.args.place h b p (place_of c.args.addresses.now s p) c.extent.result c.in_ok-named.ensures.is
    (λ g system. c.laws-2.ensures.world g system p there) c.laws.ensures.reads (c.laws-2.ensures.there p there) c.extent.ensures
