use Rattle.gq_model.specs.machine.Program.{bytes_of, spelled}
use Rattle.gq_slots.proofs.Slot_call_effects.{extent_of_slot, inside_of, writes_slot}
use Rattle.gq_slots.proofs.Slots_view_fields.{slots_of}
use Rattle.gq_slots.proofs.slots.Slots.write.Goals as goal

pub write-requires-clause-there : goal.write-requires-clause-there
write-requires-clause-there c =
    extent_of_slot (slots_of c.self.inside) c.args.extent c.self.invariant c.laws.ensures.trading
    (inside_of c.args.self.now (slots_of c.self.inside) c.args.extent c.self.view_is c.requires.there)

pub invariant_of-self : goal.invariant_of-self
invariant_of-self c =
    let there = c.requires.there in
    (writes_slot c.args.self.now (slots_of c.self.inside) c.write.new.store c.args.extent there.slot_id c.args.index
    (spelled (bytes_of c.args.width) c.args.value) c.self.view_is c.self.invariant c.laws.ensures.trading there.there there.is c.write.ensures.puts
    c.write.ensures.rest).0

pub returns : goal.returns
returns c = λ p there is.
    (writes_slot c.args.self.now (slots_of c.self.inside) c.write.new.store c.args.extent p c.args.index
    (spelled (bytes_of c.args.width) c.args.value) c.self.view_is c.self.invariant c.laws.ensures.trading there is c.write.ensures.puts
    c.write.ensures.rest).1
