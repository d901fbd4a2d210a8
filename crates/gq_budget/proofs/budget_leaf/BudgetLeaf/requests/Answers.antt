use Rattle.std.proofs.Common.{List, ap, subst}
use Rattle.gq_model.specs.machine.Program.{Statements}
use Rattle.gq_model.specs.declared.section.Section.{Section}
use Rattle.gq_model.specs.rules.Kinds.{Subject}
use Rattle.gq_budget.specs.Leaf_routes.{BudgetLeaf}
use Rattle.gq_budget.specs.internal.Counted.{AreRequests}
use Rattle.gq_budget.proofs.Counted_section_requests.{leads_end}
use Rattle.gq_budget.proofs.budget_leaf.BudgetLeaf.requests.Goals as goal

pub returns : goal.returns
returns c =
    let items = c.sections-from-items.result.now in
    let made = c.loop-from.requests.items in
    let all = leads_end c.self.inside.verified.now items c.loop-from.from-index made c.loop-from-test.false c.loop-from.invariant.made in
    let of = subst (λ (v : Subject). AreRequests v items made) (ap (λ (l : BudgetLeaf). l.subject) c.self.view_is) all in
    subst (λ (ps : List (Section × Statements)). AreRequests c.args.self.now.subject ps made) c.sections-from-items.ensures.sections of
