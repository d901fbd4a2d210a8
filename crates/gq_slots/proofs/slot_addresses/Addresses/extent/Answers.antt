use Rattle.std.proofs.Common.{◌≡◌, Some, rules, ◌∙◌}
use Rattle.gq_slots.specs.Slot_addresses.{place_in}
use Rattle.gq_slots.proofs.Addresses_places.{own_extent}
use Rattle.gq_slots.proofs.slot_addresses.Addresses.extent.Goals as goal

pub returns-in-Empty : goal.returns-in-Empty
returns-in-Empty c =
    let here : Some c.args.slot_id ≡ place_in c.args.self.now c.args.slots.now c.content-content.result c.args.slot_id = search rules in
    c.extent.ensures ∙ own_extent c.args.self.now c.args.slots.now c.content-content.result c.args.slot_id c.content-content.ensures.is here
