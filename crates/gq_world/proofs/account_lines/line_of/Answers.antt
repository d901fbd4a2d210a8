use Rattle.std.proofs.Common.{◌≡◌, ◌∙◌, IfSome, ap, subst}
use Rattle.std.specs.Prelude.{slice_get}
use Rattle.gq_model.specs.machine.Scenario.{Scenario}
use Rattle.gq_model.specs.rules.Accept.{step_budgets}
use Rattle.gq_scenario.specs.Component_trees.{version_number}
use Rattle.gq_resolve.specs.NodeTables.{node_rows}
use Rattle.gq_world.specs.Account_lines.{accounts_by, stored_budgets}
use Rattle.gq_world.proofs.World_account_lines.{account_at_node, line_is}
use Rattle.gq_world.proofs.account_lines.line_of.Goals as goal

pub returns : goal.returns
returns c =
    let s = c.args.machine.now.scenario in
    let w = c.args.machine.now.world in
    let reported = stored_budgets w (step_budgets c.args.budgets.now) in
    let n = c.args.node in
    let p = account_at_node s w reported c.requires.leaves n c.requires.node in
    let P : Scenario → Type 0 = λ s. IfSome (slice_get (node_rows s) n) (λ r. c.label.result.now ≡ r.label) in
    let version = c.version.ensures ∙ (ap (λ s. s.version) c.scenario.ensures ∙ ap (λ s. s.version) c.table-table.ensures) in
    line_is s w reported (accounts_by s w reported) n p c.label.result.now c.account_line.result.items c.account_of-account.result
    (version_number c.version.result) version c.account_line.ensures (subst P c.table-table.ensures c.label.ensures.label)
    c.account_of-account.ensures.reported
