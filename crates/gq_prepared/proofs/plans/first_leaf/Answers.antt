use Rattle.gq_prepared.proofs.Planned_nodes.{after_within, pending, live}
use Rattle.gq_prepared.proofs.plans.first_leaf.Goals as goal

pub node-requires : goal.node-requires
node-requires c = after_within c.args.table.now c.args.leaf c.in-Some.before c.after.result c.requires.there c.after.ensures c.in-Some.is

pub returns-in-Some : goal.returns-in-Some
returns-in-Some c =
    pending c.args.table.now c.args.leaf c.in-Some.before c.node.result c.index.result c.args.quantum c.after.result c.requires.there c.after.ensures
    c.in-Some.is c.node.ensures.place c.index.ensures

pub returns-in-None : goal.returns-in-None
returns-in-None c =
    live c.args.table.now c.args.leaf c.args.quantum c.after.result c.requires.ready c.requires.there c.after.ensures c.in-None.is
