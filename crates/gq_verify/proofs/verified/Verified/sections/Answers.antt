use Rattle.std.proofs.Common.{List, subst, sym}
use Rattle.gq_model.specs.declared.section.Section.{Section}
use Rattle.gq_model.specs.machine.Program.{Statements}
use Rattle.gq_verify.specs.Named_sections.{AreThere}
use Rattle.gq_verify.proofs.Sections_by_name.{are_there}
use Rattle.gq_verify.proofs.verified.Verified.sections.Goals as goal

pub returns-clause-there : goal.returns-clause-there
returns-clause-there c =
    subst (λ (l : List (Section × Statements)). AreThere l l) (sym c.sections.ensures) (are_there c.program-program.result.now c.laws.ensures)
