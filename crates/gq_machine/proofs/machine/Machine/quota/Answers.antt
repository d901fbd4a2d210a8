-- The quota of a node.
use Rattle.std.proofs.Common.{ap, inl, inr, sym, ◌∙◌}
use Rattle.gq_model.specs.machine.Amounts.{counts_caps}
use Rattle.gq_model.specs.machine.Scenario.{Scenario}
use Rattle.gq_trade.specs.Balances.{node_at, quota}
use Rattle.gq_machine.proofs.Machine_reader_values.{all_caps_read, no_caps_read, none_left, quota_read}
use Rattle.gq_machine.proofs.machine.Machine.quota.Goals as goal

pub returns-in-Ended-clause-ram : goal.returns-in-Ended-clause-ram
returns-in-Ended-clause-ram c reported =
    quota_read c.self.inside c.args.self.now c.self.view_is c.self.invariant c.lawful.ensures reported c.args.node 0
    (sym (none_left c.self.inside c.args.self.now c.self.view_is c.self.invariant c.lawful.ensures c.args.node c.requires
    ((λ j. (node_at (sym c.trades-trades.ensures j).nodes (sym c.index.ensures j)).stage) ∙ sym c.stage.ensures ∙ c.in-Ended.is)).0)

pub returns-in-Ended-clause-caps : goal.returns-in-Ended-clause-caps
returns-in-Ended-clause-caps c reported =
    no_caps_read c.self.inside c.args.self.now c.self.view_is c.self.invariant c.lawful.ensures reported c.args.node
    (inr (none_left c.self.inside c.args.self.now c.self.view_is c.self.invariant c.lawful.ensures c.args.node c.requires
    ((λ j. (node_at (sym c.trades-trades.ensures j).nodes (sym c.index.ensures j)).stage) ∙ sym c.stage.ensures ∙ c.in-Ended.is)).1)

pub returns-then-counts_caps-clause-ram : goal.returns-then-counts_caps-clause-ram
returns-then-counts_caps-clause-ram c reported =
    quota_read c.self.inside c.args.self.now c.self.view_is c.self.invariant c.lawful.ensures reported c.args.node c.quota-quota.result.ram
    (c.quota-quota.ensures.ram ∙ (λ j. quota (λ n. n.ram) (c.trades-trades.ensures j).trading (c.index-in-Pending.ensures j)))

pub returns-then-counts_caps-clause-caps : goal.returns-then-counts_caps-clause-caps
returns-then-counts_caps-clause-caps c reported =
    all_caps_read c.self.inside c.args.self.now c.self.view_is c.self.invariant c.lawful.ensures reported c.args.node c.quota-quota.result.caps
    (ap (λ (s : Scenario). counts_caps s.version) (sym c.scenario.ensures) ∙ (ap counts_caps (sym c.version.ensures)
    ∙ (sym c.counts_caps.ensures ∙ c.if-counts_caps.true)))
    (c.quota-quota.ensures.caps ∙ (λ j. quota (λ n. n.caps) (c.trades-trades.ensures j).trading (c.index-in-Pending.ensures j)))

pub returns-else-counts_caps-clause-ram : goal.returns-else-counts_caps-clause-ram
returns-else-counts_caps-clause-ram c reported =
    quota_read c.self.inside c.args.self.now c.self.view_is c.self.invariant c.lawful.ensures reported c.args.node c.quota-quota.result.ram
    (c.quota-quota.ensures.ram ∙ (λ j. quota (λ n. n.ram) (c.trades-trades.ensures j).trading (c.index-in-Pending.ensures j)))

pub returns-else-counts_caps-clause-caps : goal.returns-else-counts_caps-clause-caps
returns-else-counts_caps-clause-caps c reported =
    no_caps_read c.self.inside c.args.self.now c.self.view_is c.self.invariant c.lawful.ensures reported c.args.node
    (inl (ap (λ (s : Scenario). counts_caps s.version) (sym c.scenario.ensures) ∙ (ap counts_caps (sym c.version.ensures)
    ∙ (sym c.counts_caps.ensures ∙ c.if-counts_caps.false))))
