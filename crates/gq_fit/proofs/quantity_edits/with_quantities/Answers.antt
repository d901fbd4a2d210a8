-- What is due to some of the quantities is due to all of them.
use Rattle.std.proofs.Common.{◌∙◌, subst}
use Rattle.std.proofs.lemmas.Result.{err_from_is_err_and}
use Rattle.gq_fit.specs.Reasons.{of_interfaces, of_tree}
use Rattle.gq_fit.specs.internal.Making.{IsDueError}
use Rattle.gq_fit.proofs.Due_quantities.{error_after, error_first}
use Rattle.gq_fit.proofs.quantity_edits.with_quantities.Goals as goal

pub returns-in_err-interfaces : goal.returns-in_err-interfaces
returns-in_err-interfaces c =
    let p = err_from_is_err_and c.from_residual-in_err-interfaces.result c.from_residual-in_err-interfaces.ensures.1 in
    let s = c.args.scenario.now in
    let least = c.args.leasts.now in
    let e = c.in_err-interfaces.field-0.0 in
    let entries = c.entries.ensures.entries ∙ c.interfaces.ensures in
    let due =
    subst (IsDueError e) (λ i. of_interfaces (c.version.ensures i) (entries i) (c.as_slice.ensures.value i)) c.in_err-interfaces.ensures.due in
    rw (p.1, p.2) (error_first e (of_interfaces s.version s.interfaces least.interfaces.items) (of_tree s least.nodes.items) due)

pub returns-in_err-tree : goal.returns-in_err-tree
returns-in_err-tree c =
    let p = err_from_is_err_and c.from_residual-in_err-tree.result c.from_residual-in_err-tree.ensures.1 in
    let s = c.args.scenario.now in
    let least = c.args.leasts.now in
    let e = c.in_err-tree.field-0.0 in
    let due = subst (λ l. IsDueError e (of_tree s l)) c.as_slice-2.ensures.value c.in_err-tree.ensures in
    rw (p.1, p.2) (error_after e (of_interfaces s.version s.interfaces least.interfaces.items) (of_tree s least.nodes.items) due)
