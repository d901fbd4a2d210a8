-- The account of a node, and what it is made of.
use Rattle.std.proofs.Common.{◌≡◌, Some, subst, sym}
use Rattle.std.specs.Prelude.{slice_get}
use Rattle.gq_machine.specs.Machines.{Machine}
use Rattle.gq_resolve.specs.NodeTables.{NodeRow, node_rows}
use Rattle.gq_traces.specs.Account_state.{node_text}
use Rattle.gq_traces.specs.Trace.{Traced}
use Rattle.gq_traces.specs.internal.Flat.{AreAheads}
use Rattle.gq_traces.specs.internal.Slot_items.{IsStanding}
use Rattle.gq_traces.specs.internal.Printed_steps.{Goes}
use Rattle.gq_traces.proofs.Sequential_text_writes.{goes_both}
use Rattle.gq_traces.proofs.Sound_world_leaves.{leaves_are}
use Rattle.gq_traces.proofs.account_state.write_node.Goals as goal

pub write_account-going-requires-clause-leaves : goal.write_account-going-requires-clause-leaves
write_account-going-requires-clause-leaves g c =
    let w = c.args.world.now in leaves_are (record { scenario = w.scenario; world = w.world }) c.machine-machine.ensures.stands

pub write_below-requires-clause-stands : goal.write_below-requires-clause-stands
write_below-requires-clause-stands g c = subst IsStanding (sym c.machine-machine.ensures.is) c.machine-machine.ensures.stands

pub returns : goal.returns
returns g c t r a at there reported =
    let w = c.args.world.now in
    let f = c.args.followed.now in
    let b = c.write_account-going in
    let Below : Machine → Type 0 = λ m. (t : Traced) → (r : NodeRow) → t.world ≡ m.world → AreAheads f.programs.items f.aheads.items t.aheads
    → slice_get (node_rows m.scenario) c.args.node ≡ Some r
    → Goes g.W.Write.contents b.new.out c.write_below.new.out b.result c.write_below.result (node_text m.scenario t c.args.node r r.leaf) in
    let below = subst Below c.machine-machine.ensures.is c.write_below.ensures in
    goes_both g.W.Write.contents c.args.out.now b.new.out c.write_below.new.out c.args.going b.result c.write_below.result _ _ (b.ensures a reported)
    (below t r at.world at.aheads there)
