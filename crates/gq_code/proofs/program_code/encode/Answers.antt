use Rattle.std.proofs.Common.{sym, subst, IsTrue}
use Rattle.gq_code.specs.internal.Coded_sections.{have_codes}
use Rattle.gq_code.proofs.Section_order_bits.{sections_have, sections_of}
use Rattle.gq_code.proofs.program_code.encode.Goals as goal

pub write_sections-requires : goal.write_sections-requires
write_sections-requires c =
    subst (λ s. IsTrue (have_codes s)) (sym c.sections-sections.ensures)
    (sections_have 0 c.args.program.now.sections (sections_of c.args.program.now c.laws.ensures))
