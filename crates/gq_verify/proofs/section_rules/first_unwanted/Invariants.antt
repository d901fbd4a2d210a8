use Rattle.std.proofs.Common.{◌≡◌, drop}
use Rattle.gq_model.specs.rules.Verdict.{first_unwanted}
use Rattle.gq_verify.proofs.section_rules.first_unwanted.Given as goal

-- none of the sections so far is unwanted
abbrev pub invariant-loop-section : goal.invariant-loop-section
invariant-loop-section l = first_unwanted l.subject (drop l.section-index l.sections) ≡ first_unwanted l.subject l.sections
