use Rattle.std.proofs.Common.{◌≡◌, drop}
use Rattle.gq_model.specs.machine.Program.{section_in}
use Rattle.gq_outcomes.proofs.key.statements_in.Given as goal

-- the section is among those that are left, if it is there
abbrev pub invariant-loop-found : goal.invariant-loop-found
invariant-loop-found l =
    section_in l.section (drop l.found-index l.found-items) ≡ section_in l.section l.program.sections
