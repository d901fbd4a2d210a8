use Rattle.gq_model.specs.machine.Program.{bytes_of}
use Rattle.gq_slots.proofs.Slot_call_effects.{extent_of_slot, inside_of, read_slot}
use Rattle.gq_slots.proofs.Slots_view_fields.{slots_of}
use Rattle.gq_slots.proofs.slots.Slots.read.Goals as goal

pub read-requires-clause-there : goal.read-requires-clause-there
read-requires-clause-there c =
    extent_of_slot (slots_of c.self.inside) c.args.extent c.self.invariant c.laws.ensures.trading
    (inside_of c.args.self.now (slots_of c.self.inside) c.args.extent c.self.view_is c.requires.there)

pub returns : goal.returns
returns c = λ p there is.
    read_slot c.args.self.now (slots_of c.self.inside) c.args.extent p c.args.index (bytes_of c.args.width) c.read.result c.self.view_is c.self.invariant
    c.laws.ensures.trading there is c.read.ensures
