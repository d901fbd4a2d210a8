-- What an init hands to its live children, one after the other.
use Rattle.std.proofs.Common.{◌∙◌, ◌<◌, ◌≤◌, IfSome, ap, arith, length, subst}
use Rattle.std.specs.Prelude.{slice_get}
use Rattle.gq_resolve.specs.NodeTables.{node_rows}
use Rattle.gq_traces.specs.Account_state.{child_items}
use Rattle.gq_traces.specs.internal.Slot_items.{Prints_items}
use Rattle.gq_traces.proofs.Printed_nodes.{children_end, children_first, children_next}
use Rattle.gq_traces.proofs.account_state.write_handed.Goals as goal

pub loop-number-init : goal.loop-number-init
loop-number-init g c = children_first g.W.Write.contents c.args.machine.now c.args.node c.args.out.now c.args.going

pub loop-number-preserved : goal.loop-number-preserved
loop-number-preserved g c =
    let m = c.args.machine.now in
    let l = c.loop-number in
    let w = c.write_child-going in
    let count = c.node_count-number-end.ensures.count ∙ ap (λ s. length (node_rows s)) c.table.ensures in
    let less : l.number < length (node_rows m.scenario) = omega (arith, c.loop-number-test.true, count) in
    children_next g.W.Write.contents m c.args.node c.args.out.now l.out w.new.out c.args.going l.going w.result l.number less l.invariant
    (subst (λ n. IfSome (slice_get (node_rows m.scenario) n)
    (λ r. Prints_items g.W.Write.contents l.out w.new.out l.going w.result m (child_items m.world c.args.node r))) c.new.ensures w.ensures)

pub returns : goal.returns
returns g c =
    let m = c.args.machine.now in
    let l = c.loop-number in
    let count = c.node_count-number-end.ensures.count ∙ ap (λ s. length (node_rows s)) c.table.ensures in
    let least : length (node_rows m.scenario) ≤ l.number = omega (arith, c.loop-number-test.false, count) in
    children_end g.W.Write.contents m c.args.node c.args.out.now l.out c.args.going l.going l.number least l.invariant
