-- What a node is given.
use Rattle.gq_resolve.specs.NodeTables.{node_rows}
use Rattle.std.specs.Prelude.{slice_get}
use Rattle.gq_traces.proofs.Printed_children.{given_printed}
use Rattle.gq_traces.proofs.account_state.write_quantum.Goals as goal

pub returns : goal.returns
returns g c =
    let s = c.args.table.now in
    given_printed g.W.Write.contents s (slice_get (node_rows s) c.args.node) c.quantum_of-quantum.result c.args.out.now c.write_amount.new.out c.args.going
    c.write_amount.result c.quantum_of-quantum.ensures c.write_amount.ensures
