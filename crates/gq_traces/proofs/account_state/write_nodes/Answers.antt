-- All nodes, one after the other.
use Rattle.std.proofs.Common.{◌<◌, ◌≤◌, arith, length, true}
use Rattle.gq_resolve.specs.NodeTables.{node_rows}
use Rattle.gq_world.specs.Account_lines.{all_accounts}
use Rattle.gq_traces.proofs.Printed_nodes.{node_as, nodes_end, nodes_first, nodes_next}
use Rattle.gq_traces.proofs.account_state.write_nodes.Goals as goal

pub loop-number-init : goal.loop-number-init
loop-number-init g c = nodes_first g.W.Write.contents c.args.world.now c.args.followed.now c.args.out.now true

pub loop-number-preserved : goal.loop-number-preserved
loop-number-preserved g c =
    let w = c.args.world.now in
    let l = c.loop-number in
    let n = c.write_node-going in
    let count = c.nodes-number-end.ensures in
    let less : l.number < length (all_accounts w) = omega (arith, c.loop-number-test.true, count.accounts) in
    let fewer : l.number < length (node_rows w.scenario) = omega (arith, c.loop-number-test.true, count.nodes) in
    nodes_next g.W.Write.contents w c.args.followed.now c.args.out.now l.out n.new.out true l.going n.result l.number less fewer l.invariant
    (node_as g.W.Write.contents w c.args.followed.now l.out n.new.out l.going n.result c.new.result l.number c.new.ensures n.ensures)

pub returns : goal.returns
returns g c t at =
    let w = c.args.world.now in
    let l = c.loop-number in
    let least : length (all_accounts w) ≤ l.number = omega (arith, c.loop-number-test.false, c.nodes-number-end.ensures.accounts) in
    nodes_end g.W.Write.contents w c.args.followed.now c.args.out.now l.out true l.going l.number least l.invariant t at
