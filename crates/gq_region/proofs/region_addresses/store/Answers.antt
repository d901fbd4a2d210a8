use Rattle.std.proofs.Common.{◌≡◌, refl, sym, ap, subst, ◌∙◌}
use Rattle.std.specs.Prelude.{IfNone, IfSome, is_some}
use Rattle.gq_model.specs.machine.Program.{bytes_of, spelled}
use Rattle.gq_contents.specs.Contents.{put_in}
use Rattle.gq_slots.specs.Calls.{PutsSlot}
use Rattle.gq_slots.specs.Slots.{Slots, slot_of, world_seen}
use Rattle.gq_region.specs.Region_addresses.{bytes_at, offset, slot_under}
use Rattle.gq_region.proofs.Found_region_bytes.{fits, is_there, none_else, puts_there, stored}
use Rattle.gq_region.proofs.region_addresses.store.Goals as goal

pub returns-in-None-clause-there : goal.returns-in-None-clause-there
returns-in-None-clause-there c = ap is_some (sym c.in-None.ensures.lies)

pub returns-in-None-clause-stored : goal.returns-in-None-clause-stored
returns-in-None-clause-stored c =
    let s : Slots = c.args.slots.now in
    subst (λ o. IfSome o (λ f. PutsSlot s s f.0 (put_in f.1 (spelled (bytes_of c.args.width) c.args.value) (slot_of s f.0)))) (sym c.in-None.ensures.lies) tt

pub returns-in-None-clause-unchanged : goal.returns-in-None-clause-unchanged
returns-in-None-clause-unchanged c = let s : Slots = c.args.slots.now in subst (λ o. IfNone o (s ≡ s)) (sym c.in-None.ensures.lies) refl

pub returns-in-None-clause-fits : goal.returns-in-None-clause-fits
returns-in-None-clause-fits c f system b =
    let s : Slots = c.args.slots.now in
    let place = bytes_at c.args.addresses.now s c.args.leaf c.args.address (bytes_of c.args.width) in
    ap is_some (sym c.in-None.ensures.lies)
    ∙ fits system (world_seen f s) s (slot_under c.args.leaf c.args.address) (offset c.args.address) (bytes_of c.args.width) place
    (c.in-None.ensures.world f system b)

pub returns-in-Some-clause-there : goal.returns-in-Some-clause-there
returns-in-Some-clause-there c =
    let s : Slots = c.args.slots.now in
    is_there s (bytes_at c.args.addresses.now s c.args.leaf c.args.address (bytes_of c.args.width)) c.in-Some.extent c.in-Some.index c.args.width
    c.in-Some.ensures.lies

pub returns-in-Some-clause-stored : goal.returns-in-Some-clause-stored
returns-in-Some-clause-stored c =
    let s : Slots = c.args.slots.now in
    puts_there s (bytes_at c.args.addresses.now s c.args.leaf c.args.address (bytes_of c.args.width)) c.in-Some.extent c.in-Some.index c.args.width
    c.in-Some.ensures.lies c.write.new.self (spelled (bytes_of c.args.width) c.args.value) c.write.ensures

pub returns-in-Some-clause-unchanged : goal.returns-in-Some-clause-unchanged
returns-in-Some-clause-unchanged c =
    let s : Slots = c.args.slots.now in
    none_else s (bytes_at c.args.addresses.now s c.args.leaf c.args.address (bytes_of c.args.width)) c.in-Some.extent c.in-Some.index c.args.width
    c.in-Some.ensures.lies c.write.new.self

pub returns-in-Some-clause-fits : goal.returns-in-Some-clause-fits
returns-in-Some-clause-fits c f system b =
    let s : Slots = c.args.slots.now in
    let place = bytes_at c.args.addresses.now s c.args.leaf c.args.address (bytes_of c.args.width) in
    is_there s place c.in-Some.extent c.in-Some.index c.args.width c.in-Some.ensures.lies
    ∙ fits system (world_seen f s) s (slot_under c.args.leaf c.args.address) (offset c.args.address) (bytes_of c.args.width) place
    (c.in-Some.ensures.world f system b)

pub returns-in-Some-clause-world : goal.returns-in-Some-clause-world
returns-in-Some-clause-world c f system b t =
    let s : Slots = c.args.slots.now in
    let place = bytes_at c.args.addresses.now s c.args.leaf c.args.address (bytes_of c.args.width) in
    let bs = spelled (bytes_of c.args.width) c.args.value in
    let x = c.in-Some.extent in
    let at = c.in-Some.ensures.lies in
    stored system (world_seen f s) s (slot_under c.args.leaf c.args.address) (offset c.args.address) (bytes_of c.args.width) f c.write.new.self bs place refl
    (c.in-Some.ensures.world f system b) (puts_there s place x c.in-Some.index c.args.width at c.write.new.self bs c.write.ensures)
    (sym (is_there s place x c.in-Some.index c.args.width at))
