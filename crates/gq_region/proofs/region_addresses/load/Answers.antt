use Rattle.std.proofs.Common.{sym, ap, ◌∙◌}
use Rattle.gq_model.specs.machine.Program.{bytes_of}
use Rattle.gq_slots.specs.Slots.{Slots, world_seen}
use Rattle.gq_region.specs.Region_addresses.{bytes_at, number_of, offset, slot_under}
use Rattle.gq_region.proofs.Found_region_bytes.{loaded, reads_there}
use Rattle.gq_region.proofs.region_addresses.load.Goals as goal

pub returns-in-None-clause-number : goal.returns-in-None-clause-number
returns-in-None-clause-number c = ap (number_of c.args.slots.now c.args.width) (sym c.in-None.ensures.lies)

pub returns-in-None-clause-world : goal.returns-in-None-clause-world
returns-in-None-clause-world c f system b =
    let s : Slots = c.args.slots.now in
    ap (number_of s c.args.width) (sym c.in-None.ensures.lies)
    ∙ loaded system (world_seen f s) s (slot_under c.args.leaf c.args.address) (offset c.args.address) c.args.width
    (bytes_at c.args.addresses.now s c.args.leaf c.args.address (bytes_of c.args.width)) (c.in-None.ensures.world f system b)

pub returns-in-Some-clause-number : goal.returns-in-Some-clause-number
returns-in-Some-clause-number c =
    let s : Slots = c.args.slots.now in
    reads_there s (bytes_at c.args.addresses.now s c.args.leaf c.args.address (bytes_of c.args.width)) c.in-Some.extent c.in-Some.index c.args.width
    c.in-Some.ensures.lies c.read.result c.read.ensures

pub returns-in-Some-clause-world : goal.returns-in-Some-clause-world
returns-in-Some-clause-world c f system b =
    let s : Slots = c.args.slots.now in
    let place = bytes_at c.args.addresses.now s c.args.leaf c.args.address (bytes_of c.args.width) in
    reads_there s place c.in-Some.extent c.in-Some.index c.args.width c.in-Some.ensures.lies c.read.result c.read.ensures
    ∙ loaded system (world_seen f s) s (slot_under c.args.leaf c.args.address) (offset c.args.address) c.args.width place
    (c.in-Some.ensures.world f system b)
