-- The quota in the account at the node of a leaf.
use Rattle.std.proofs.Common.{[]}
use Rattle.gq_traces.proofs.Leaf_accounts.{caps_is, ram_is}
use Rattle.gq_traces.proofs.Printed_own_slots.{node_within, place_of_leaf}
use Rattle.gq_traces.proofs.peaks.quota_of.Goals as goal

pub quota-requires : goal.quota-requires
quota-requires c =
    let m = c.args.machine.now in
    node_within m.scenario c.table.result.now c.args.leaf c.node-node.result c.table.ensures c.requires.leaf c.node-node.ensures.node

pub returns-clause-ram : goal.returns-clause-ram
returns-clause-ram c =
    let m = c.args.machine.now in
    let less = node_within m.scenario c.table.result.now c.args.leaf c.node-node.result c.table.ensures c.requires.leaf c.node-node.ensures.node in
    let place = place_of_leaf m.scenario c.table.result.now c.args.leaf c.node-node.result c.table.ensures c.requires.leaf c.node-node.ensures.place in
    ram_is m.scenario m.world c.requires.leaves c.args.leaf c.node-node.result place less c.quota.result.ram (c.quota.ensures.ram [])

pub returns-clause-caps : goal.returns-clause-caps
returns-clause-caps c two =
    let m = c.args.machine.now in
    let less = node_within m.scenario c.table.result.now c.args.leaf c.node-node.result c.table.ensures c.requires.leaf c.node-node.ensures.node in
    let place = place_of_leaf m.scenario c.table.result.now c.args.leaf c.node-node.result c.table.ensures c.requires.leaf c.node-node.ensures.place in
    caps_is m.scenario m.world c.requires.leaves c.args.leaf c.node-node.result place less c.quota.result.caps two (c.quota.ensures.caps [])
