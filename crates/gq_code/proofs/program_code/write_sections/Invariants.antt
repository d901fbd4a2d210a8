use Rattle.std.proofs.Common.{◌≡◌, ◌++◌, drop, IsTrue}
use Rattle.gq_model.specs.texts.Code.{sections_code}
use Rattle.gq_code.specs.internal.Coded_sections.{have_codes}
use Rattle.gq_code.proofs.program_code.write_sections.Given as goal

-- the bytes so far, with those of the sections that are left, are all
abbrev pub invariant-loop-body : goal.invariant-loop-body
invariant-loop-body l = record {
  written : l.out.items ++ sections_code (drop l.body-index l.sections) ≡ l.fn.out.items ++ sections_code l.sections;
  in_range : IsTrue (have_codes (drop l.body-index l.sections));
}
