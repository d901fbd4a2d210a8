-- A session's object and slots.
use Rattle.gq_traces.proofs.Printed_banks.{bank_printed}
use Rattle.gq_traces.proofs.items.write_bank.Goals as goal

pub returns : goal.returns
returns g c =
    bank_printed g.W.Write.contents c.args.machine.now c.args.session c.args.out.now c.write_slot-going.new.out c.write_slots.new.out c.args.going
    c.write_slot-going.result c.write_slots.result c.write_slot-going.ensures c.write_slots.ensures
