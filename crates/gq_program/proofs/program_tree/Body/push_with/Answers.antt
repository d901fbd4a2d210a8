use Rattle.std.proofs.Common.{[], ◌∷◌, ap, sym, ◌∙◌}
use Rattle.gq_model.specs.machine.Program.{◌then◌}
use Rattle.gq_program.specs.Statement_trees.{tree_of}
use Rattle.gq_program.specs.internal.Listed_statements.{items_of}
use Rattle.gq_program.proofs.Statement_vector_lists.{tree_of-append}
use Rattle.gq_program.proofs.Statement_summary_step.{on_ok}
use Rattle.gq_program.proofs.program_tree.Body.push_with.Goals as goal

pub returns-in-Statements-clause-pushed : goal.returns-in-Statements-clause-pushed
returns-in-Statements-clause-pushed c =
    let kept = c.in-Statements.kept.value in
    let same = ap (λ k. tree_of k.statements.items) c.deref_mut.ensures.value ∙ (ap (λ l. tree_of (items_of l)) (sym c.in-Statements.is) ∙ c.self.view_is) in
    on_ok c.push.result _ _ (λ e. ap tree_of e ∙ (tree_of-append c.deref_mut.result.now.statements.items (c.args.statement ∷ [])
    ∙ ap (λ t. t then tree_of (c.args.statement ∷ [])) same)) c.push.ensures.pushed
