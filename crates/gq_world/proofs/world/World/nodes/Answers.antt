use Rattle.std.proofs.Common.{◌∙◌, ap, sym, length}
use Rattle.gq_resolve.specs.NodeTables.{node_rows}
use Rattle.gq_world.proofs.World_account_lines.{all_count, leaves_count}
use Rattle.gq_world.proofs.World_turn_facts.{stands_seen}
use Rattle.gq_world.proofs.world.World.nodes.Goals as goal

pub returns-clause-accounts : goal.returns-clause-accounts
returns-clause-accounts c =
    let m = c.self.inside.machine in
    let w = c.args.self.now in
    let stands = stands_seen m.scenario w.scenario m.world w.world (ap (λ v. v.scenario) c.self.view_is)
    (ap (λ v. v.world) c.self.view_is) c.self.invariant.budgeted.stands in
    c.node_count.ensures.count ∙ (ap (λ s. length (node_rows s)) c.table.ensures ∙ sym (all_count w (leaves_count w.scenario w.world stands)))
