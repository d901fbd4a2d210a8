use Rattle.std.proofs.Common.{◌≡◌, ◌∙◌, ◌+◌, ◌-◌, ◌^◌, length, min, ap, sym, subst, rules}
use Rattle.gq_model.specs.rules.Budgets.{cost}
use Rattle.gq_program.specs.Statement_trees.{tree_of}
use Rattle.gq_program.specs.internal.Listed_statements.{items_of, IsNoted}
use Rattle.gq_program.proofs.Statement_summary_step.{noted_cost}
use Rattle.gq_program.proofs.program_tree.Body.cost.Goals as goal

pub returns-in-Statements : goal.returns-in-Statements
returns-in-Statements c =
    let kept = c.in-Statements.kept.value in
    let count : c.len-count.result ≡ length kept.statements.items = search rules in
    noted_cost kept.statements.items kept.notes c.len-count.result c.saturating_add.result (subst IsNoted c.in-Statements.is c.self.invariant) count
    (c.saturating_add.ensures ∙ ap (λ k. min (c.len-count.result + k.notes.further) (2 ^ 64 - 1)) c.deref-in-Statements.ensures)
    ∙ ap (λ b. min (cost b) (2 ^ 64 - 1)) (ap (λ l. tree_of (items_of l)) (sym c.in-Statements.is) ∙ c.self.view_is)
