use Rattle.gq_rules.proofs.Program_section_facts.{each_section, few_statements}
use Rattle.gq_rules.proofs.subject.Subject.sections.Goals as goal

pub returns-clause-each : goal.returns-clause-each
returns-clause-each c = rw c.sections.ensures (each_section c.self.inside.program.now c.laws.ensures)

pub returns-clause-few : goal.returns-clause-few
returns-clause-few c = rw c.sections.ensures (few_statements c.self.inside.program.now c.laws.ensures)
