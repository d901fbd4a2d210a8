-- What is received with a session, and what is held for it.
use Rattle.gq_traces.proofs.Printed_sessions.{session_printed}
use Rattle.gq_traces.proofs.items.write_received.Goals as goal

pub returns : goal.returns
returns g c =
    session_printed g.W.Write.contents c.args.machine.now c.table-table.result.now c.table-table.ensures c.args.session c.args.state.now c.requires.state
    c.args.out.now c.write_amount-going.new.out c.write_bank.new.out c.args.going c.write_amount-going.result c.write_bank.result c.as_slice.result.now
    c.received_rest-rest.result.items c.as_slice.ensures.value c.received_rest-rest.ensures.bytes c.write_amount-going.ensures c.write_bank.ensures
