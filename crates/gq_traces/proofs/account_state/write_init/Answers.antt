-- What an init is given and hands on.
use Rattle.std.proofs.Common.{subst, IfSome}
use Rattle.std.specs.Prelude.{slice_get}
use Rattle.gq_model.specs.machine.Scenario.{Scenario}
use Rattle.gq_resolve.specs.NodeTables.{node_rows}
use Rattle.gq_traces.specs.Account_state.{Given, item, items_text}
use Rattle.gq_traces.specs.internal.Printed_steps.{Goes}
use Rattle.std.proofs.Common.{[], ◌∷◌}
use Rattle.gq_traces.proofs.Printed_children.{init_reported}
use Rattle.gq_traces.proofs.account_state.write_init.Goals as goal

pub returns : goal.returns
returns g c =
    let m = c.args.machine.now in
    let q = c.write_quantum-going in
    init_reported g.W.Write.contents m c.args.node (slice_get (node_rows m.scenario) c.args.node) c.args.out.now q.new.out c.write_handed.new.out c.args.going
    q.result c.write_handed.result
    (subst (λ (s : Scenario). IfSome (slice_get (node_rows s) c.args.node)
    (λ r. Goes g.W.Write.contents c.args.out.now q.new.out c.args.going q.result (items_text s.version (item 1 Given r.quantum [] ∷ []))))
    c.table.ensures q.ensures) c.write_handed.ensures
