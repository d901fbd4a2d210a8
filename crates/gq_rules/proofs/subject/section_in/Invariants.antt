use Rattle.std.proofs.Common.{◌≡◌, drop}
use Rattle.gq_model.specs.machine.Program.{section_in}
use Rattle.gq_rules.proofs.subject.section_in.Given as goal

-- the section is found among all where it is among those that are left
abbrev pub invariant-loop-there : goal.invariant-loop-there
invariant-loop-there l = section_in l.section (drop l.there-index l.sections) ≡ section_in l.section l.sections
