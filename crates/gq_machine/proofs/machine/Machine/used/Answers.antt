-- What a leaf holds.
use Rattle.std.proofs.Common.{◌∙◌}
use Rattle.gq_trade.specs.Balances.{use_of}
use Rattle.gq_machine.proofs.Machine_reader_values.{account_there, caps_used_read, exited_none, its_node, used_read}
use Rattle.gq_machine.proofs.machine.Machine.used.Goals as goal

pub used-requires : goal.used-requires
used-requires c =
    account_there c.self.inside c.args.self.now c.self.view_is c.self.invariant c.lawful.ensures c.args.leaf c.requires c.index-place.result
    c.index.result.now c.index.ensures c.index-place.ensures c.phase.result c.phase.ensures c.in_default.not-Exited c.trades-trades.result.now
    c.trades-trades.ensures c.index-in_default.result c.node.result c.index-in_default.ensures c.node.ensures.place

pub returns-in-Exited-clause-ram : goal.returns-in-Exited-clause-ram
returns-in-Exited-clause-ram c =
    used_read c.self.inside c.args.self.now c.self.view_is c.self.invariant c.lawful.ensures c.args.leaf 0
    (exited_none c.self.inside c.args.self.now c.self.view_is c.self.invariant c.lawful.ensures c.args.leaf c.requires c.index-place.result
    c.index.result.now c.index.ensures c.index-place.ensures c.phase.result c.phase.ensures c.in-Exited.is).0

pub returns-in-Exited-clause-caps : goal.returns-in-Exited-clause-caps
returns-in-Exited-clause-caps c two =
    caps_used_read c.self.inside c.args.self.now c.self.view_is c.self.invariant c.lawful.ensures two c.args.leaf 0
    (exited_none c.self.inside c.args.self.now c.self.view_is c.self.invariant c.lawful.ensures c.args.leaf c.requires c.index-place.result
    c.index.result.now c.index.ensures c.index-place.ensures c.phase.result c.phase.ensures c.in-Exited.is).1

pub returns-in_default-clause-ram : goal.returns-in_default-clause-ram
returns-in_default-clause-ram c =
    let node = its_node c.self.inside c.args.self.now c.self.view_is c.self.invariant c.lawful.ensures c.args.leaf c.requires c.node.result
    c.node.ensures.place in
    used_read c.self.inside c.args.self.now c.self.view_is c.self.invariant c.lawful.ensures c.args.leaf c.used.result.ram
    (c.used.ensures.ram ∙ (λ j. use_of (λ n. n.ram) (c.trades-trades.ensures j).trading ((c.index-in_default.ensures ∙ node) j)))

pub returns-in_default-clause-caps : goal.returns-in_default-clause-caps
returns-in_default-clause-caps c two =
    let node = its_node c.self.inside c.args.self.now c.self.view_is c.self.invariant c.lawful.ensures c.args.leaf c.requires c.node.result
    c.node.ensures.place in
    caps_used_read c.self.inside c.args.self.now c.self.view_is c.self.invariant c.lawful.ensures two c.args.leaf c.used.result.caps
    (c.used.ensures.caps ∙ (λ j. use_of (λ n. n.caps) (c.trades-trades.ensures j).trading ((c.index-in_default.ensures ∙ node) j)))
