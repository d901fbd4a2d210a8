use Rattle.std.proofs.Common.{◌∙◌, ap}
use Rattle.gq_model.specs.machine.Program.{section_in}
use Rattle.gq_rules.proofs.Program_section_facts.{body_loops, body_few}
use Rattle.gq_rules.proofs.subject.Subject.body.Goals as goal

pub returns-clause-loops : goal.returns-clause-loops
returns-clause-loops c =
    body_loops c.section_in.result c.self.inside.program.now c.args.section c.laws.ensures
    (c.section_in.ensures ∙ ap (section_in c.args.section) c.sections.ensures)

pub returns-clause-few : goal.returns-clause-few
returns-clause-few c =
    body_few c.section_in.result c.self.inside.program.now c.args.section c.laws.ensures
    (c.section_in.ensures ∙ ap (section_in c.args.section) c.sections.ensures)
