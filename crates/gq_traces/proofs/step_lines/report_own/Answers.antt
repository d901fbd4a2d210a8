-- The account of the leaf of a step.
use Rattle.std.proofs.Common.{arith}
use Rattle.gq_world.specs.Account_lines.{all_accounts}
use Rattle.gq_traces.proofs.Printed_own_slots.{node_within, place_of_leaf}
use Rattle.gq_traces.proofs.Sound_world_leaves.{there_is}
use Rattle.gq_traces.proofs.step_lines.report_own.Goals as goal

pub print_account-requires-clause-node : goal.print_account-requires-clause-node
print_account-requires-clause-node g c =
    let w = c.args.world.now in
    node_within w.scenario c.table.result.now c.args.head.now.leaf c.node-node.result c.table.ensures c.requires.leaf c.node-node.ensures.node

pub print_account-requires-clause-noted : goal.print_account-requires-clause-noted
print_account-requires-clause-noted g c =
    let w = c.args.world.now in
    let less = node_within w.scenario c.table.result.now c.args.head.now.leaf c.node-node.result c.table.ensures c.requires.leaf c.node-node.ensures.node in
    let count = c.counted.ensures.accounts in
    let noted = c.requires.noted in
    omega (arith, less, count, noted)

pub returns : goal.returns
returns g c =
    let w = c.args.world.now in
    let less = node_within w.scenario c.table.result.now c.args.head.now.leaf c.node-node.result c.table.ensures c.requires.leaf c.node-node.ensures.node in
    let count = c.counted.ensures.accounts in
    let noted = c.requires.noted in
    let a = there_is (all_accounts w) c.node-node.result (omega (arith, less, count)) in
    let b = there_is c.args.notes.now.accounts.items c.node-node.result (omega (arith, less, count, noted)) in
    record {
      place = c.node-node.result;
      at = place_of_leaf w.scenario c.table.result.now c.args.head.now.leaf c.node-node.result c.table.ensures c.requires.leaf c.node-node.ensures.place;
      account = a.0;
      there = a.1;
      noted = b.0;
      before = b.1;
      reports = c.print_account.ensures;
    }
