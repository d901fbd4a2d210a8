use Rattle.std.proofs.Common.{◌∙◌, ap, sym, length}
use Rattle.gq_model.specs.rules.Accept.{step_budgets}
use Rattle.gq_resolve.specs.NodeTables.{node_rows}
use Rattle.gq_world.proofs.World_account_lines.{accounts_count}
use Rattle.gq_world.specs.Account_lines.{stored_budgets}
use Rattle.gq_world.proofs.account_lines.account_count.Goals as goal

pub returns-clause-accounts : goal.returns-clause-accounts
returns-clause-accounts c =
    let m = c.args.machine.now in
    c.node_count.ensures.count ∙ (ap (λ s. length (node_rows s)) c.table.ensures
    ∙ sym (accounts_count m.scenario m.world (stored_budgets m.world (step_budgets c.args.budgets.now)) c.requires))
