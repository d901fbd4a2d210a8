use Rattle.std.proofs.Common.{◌≡◌, drop}
use Rattle.gq_model.specs.machine.Program.{section_in}
use Rattle.gq_asm.proofs.headings.is_given.Given as goal

abbrev pub invariant-loop-given : goal.invariant-loop-given
invariant-loop-given l = section_in l.section (drop l.given-index l.sections) ≡ section_in l.section l.sections
