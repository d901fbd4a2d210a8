-- What is said of a program that breaks a rule.
use Rattle.gq_model.specs.rules.Verdict as verdict
use Rattle.gq_verify.specs.declared.verify_fault.BrokenRule.{BrokenRule}

-- a fault as the rules know it
abbrev pub known_fault : BrokenRule → verdict.Fault
known_fault f = record { rule = f.rule; section = f.section; place = f.place }
