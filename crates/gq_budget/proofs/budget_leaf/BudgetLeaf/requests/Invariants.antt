use Rattle.std.proofs.Common.{drop, IsTrue}
use Rattle.gq_model.specs.machine.Lists.{all_of}
use Rattle.gq_model.specs.machine.Sections.{is_section}
use Rattle.gq_budget.proofs.Counted_section_requests.{Leads}
use Rattle.gq_budget.proofs.budget_leaf.BudgetLeaf.requests.Given as goal

-- the requests so far, with those of the sections that are left, are those of all
abbrev pub invariant-loop-from : goal.invariant-loop-from
invariant-loop-from l = record {
  made : Leads l.verified l.from-items (drop l.from-index l.from-items) l.requests.items;
  each : IsTrue (all_of (λ p. is_section p.0) (drop l.from-index l.from-items));
}
