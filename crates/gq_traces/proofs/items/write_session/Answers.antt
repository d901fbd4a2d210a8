-- A session, if it is one to the leaf.
use Rattle.std.proofs.Common.{◌∙◌, sym}
use Rattle.gq_traces.specs.internal.Slot_items.{Prints_items}
use Rattle.gq_traces.proofs.Printed_sessions.{received_here}
use Rattle.gq_traces.proofs.Sound_world_leaves.{leaves_are, session_bank}
use Rattle.gq_traces.proofs.items.write_session.Goals as goal

pub write_received-requires-clause-bank : goal.write_received-requires-clause-bank
write_received-requires-clause-bank g c =
    let reported = c.in-Some.ensures.some in session_bank c.args.machine.now c.requires.stands c.args.session reported.session reported.there

pub write_received-requires-clause-leaves : goal.write_received-requires-clause-leaves
write_received-requires-clause-leaves g c = leaves_are c.args.machine.now c.requires.stands

pub returns-else-state-index : goal.returns-else-state-index
returns-else-state-index g c =
    let reported = c.in-Some.ensures.some in
    received_here c.args.machine.now c.args.session c.args.leaf c.in-Some.state.server reported.session
    (Prints_items g.W.Write.contents c.args.out.now c.write_received.new.out c.args.going c.write_received.result c.args.machine.now) reported.there
    (sym reported.server) (c.if-state-index.false ∙ c.index.ensures) c.write_received.ensures
