use Rattle.std.proofs.Common.{sym, subst, arith}
use Rattle.gq_model.specs.machine.Program.{bytes_of}
use Rattle.gq_slots.specs.Slots.{IsSlotId, Slots, world_seen}
use Rattle.gq_slots.specs.Slot_addresses.{place_of}
use Rattle.gq_region.specs.Region_addresses.{Lies, bytes_at, offset, slot_under}
use Rattle.gq_region.proofs.Found_region_bytes.{extent_is, found_within, lies_nowhere, lies_short, lies_there, reads_at, width_some, window_slot}
use Rattle.gq_region.proofs.region_addresses.find.Goals as goal

pub returns-in_err-extent-clause-lies : goal.returns-in_err-extent-clause-lies
returns-in_err-extent-clause-lies c =
    let s : Slots = c.args.slots.now in
    let o = place_of c.args.addresses.now s (slot_under c.args.leaf c.args.address) in
    subst (λ r. Lies s (bytes_at c.args.addresses.now s c.args.leaf c.args.address (bytes_of c.args.width)) r) (sym c.from_residual.ensures)
    (lies_nowhere s (offset c.args.address) c.args.width o c.in_err-extent.ensures)

pub returns-in_err-extent-clause-world : goal.returns-in_err-extent-clause-world
returns-in_err-extent-clause-world c f system b =
    let s : Slots = c.args.slots.now in
    let p = slot_under c.args.leaf c.args.address in
    let there : IsSlotId s p = window_slot s c.args.leaf c.args.address c.requires.leaf c.ranges.address.fits in
    let o = place_of c.args.addresses.now s p in
    found_within system (world_seen f s) s p (offset c.args.address) (bytes_of c.args.width) o (c.laws-2.ensures.world f system p there b)
    (reads_at f s o c.laws.ensures.reads (c.laws-2.ensures.there p there)) (width_some c.args.width)

pub returns-then-from-count_of-clause-is : goal.returns-then-from-count_of-clause-is
returns-then-from-count_of-clause-is c =
    let s : Slots = c.args.slots.now in
    let p = slot_under c.args.leaf c.args.address in
    let there : IsSlotId s p = window_slot s c.args.leaf c.args.address c.requires.leaf c.ranges.address.fits in
    let o = place_of c.args.addresses.now s p in
    extent_is s o c.in_ok-extent.extent c.in_ok-extent.ensures (c.laws-2.ensures.there p there)

pub returns-then-from-count_of-clause-lies : goal.returns-then-from-count_of-clause-lies
returns-then-from-count_of-clause-lies c =
    let s : Slots = c.args.slots.now in
    let p = slot_under c.args.leaf c.args.address in
    let there : IsSlotId s p = window_slot s c.args.leaf c.args.address c.requires.leaf c.ranges.address.fits in
    let o = place_of c.args.addresses.now s p in
    lies_there s (offset c.args.address) c.args.width o c.in_ok-extent.extent c.in_ok-extent.ensures
    (omega (arith, c.if-from-count_of.true, c.count_of.ensures)) (c.laws-2.ensures.there p there)

pub returns-then-from-count_of-clause-world : goal.returns-then-from-count_of-clause-world
returns-then-from-count_of-clause-world c f system b =
    let s : Slots = c.args.slots.now in
    let p = slot_under c.args.leaf c.args.address in
    let there : IsSlotId s p = window_slot s c.args.leaf c.args.address c.requires.leaf c.ranges.address.fits in
    let o = place_of c.args.addresses.now s p in
    found_within system (world_seen f s) s p (offset c.args.address) (bytes_of c.args.width) o (c.laws-2.ensures.world f system p there b)
    (reads_at f s o c.laws.ensures.reads (c.laws-2.ensures.there p there)) (width_some c.args.width)

pub returns-else-from-count_of-clause-lies : goal.returns-else-from-count_of-clause-lies
returns-else-from-count_of-clause-lies c =
    let s : Slots = c.args.slots.now in
    let o = place_of c.args.addresses.now s (slot_under c.args.leaf c.args.address) in
    lies_short s (offset c.args.address) c.args.width o c.in_ok-extent.extent c.in_ok-extent.ensures
    (omega (arith, c.if-from-count_of.false, c.count_of.ensures))

pub returns-else-from-count_of-clause-world : goal.returns-else-from-count_of-clause-world
returns-else-from-count_of-clause-world c f system b =
    let s : Slots = c.args.slots.now in
    let p = slot_under c.args.leaf c.args.address in
    let there : IsSlotId s p = window_slot s c.args.leaf c.args.address c.requires.leaf c.ranges.address.fits in
    let o = place_of c.args.addresses.now s p in
    found_within system (world_seen f s) s p (offset c.args.address) (bytes_of c.args.width) o (c.laws-2.ensures.world f system p there b)
    (reads_at f s o c.laws.ensures.reads (c.laws-2.ensures.there p there)) (width_some c.args.width)
