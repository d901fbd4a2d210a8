-- The line of an account.
use Rattle.std.proofs.Common.{◌≡◌, ◌∙◌, ap, subst, IfSome}
use Rattle.std.specs.Prelude.{slice_get}
use Rattle.gq_model.specs.machine.Scenario.{Scenario}
use Rattle.gq_resolve.specs.NodeTables.{node_rows}
use Rattle.gq_scenario.specs.Component_trees.{version_number}
use Rattle.gq_world.proofs.World_account_lines.{leaves_count, line_of_node}
use Rattle.gq_outcomes.proofs.text.account_of.Goals as goal

pub returns : goal.returns
returns c a there =
    let w = c.args.world.now in
    let P : Scenario → Type 0 = λ s. IfSome (slice_get (node_rows s) c.args.node) (λ r. c.label.result.now ≡ r.label) in
    let version = c.version.ensures ∙ (ap (λ s. s.version) c.scenario.ensures ∙ ap (λ s. s.version) c.table-table.ensures) in
    line_of_node w (leaves_count w.scenario w.world c.machine-machine.ensures.stands) c.args.node c.requires c.label.result.now c.account_line.result.items
    c.account-account.result (version_number c.version.result) version c.account_line.ensures (subst P c.table-table.ensures c.label.ensures.label)
    c.account-account.ensures.reported a there
