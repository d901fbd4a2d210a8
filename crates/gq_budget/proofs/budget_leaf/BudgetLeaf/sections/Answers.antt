use Rattle.gq_rules.proofs.Program_section_facts.{each_section}
use Rattle.gq_budget.proofs.budget_leaf.BudgetLeaf.sections.Goals as goal

pub returns-clause-each : goal.returns-clause-each
returns-clause-each c = rw c.sections.ensures (each_section c.self.inside.program.now c.laws.ensures)
