use Rattle.std.proofs.Common.{◌++◌, ap, sym, ◌∙◌, append-nil}
use Rattle.gq_faults.specs.Found_lines.{lines_found}
use Rattle.gq_faults.proofs.Over_limit_leaves.{none_over, one_over}
use Rattle.gq_faults.proofs.budget_faults.push_over.Goals as goal

pub returns-in_default : goal.returns-in_default
returns-in_default c =
    let old = lines_found c.args.found.now.items in
    sym (ap (λ l. old ++ l) (none_over c.args.component.now c.args.budget.now c.args.limit c.in_default.ensures) ∙ append-nil old)

pub returns : goal.returns
returns c =
    let same = one_over c.args.component.now c.args.budget.now c.args.limit c.in-Some.fault c.in-Some.ensures in
    rw same c.push_fault.ensures
