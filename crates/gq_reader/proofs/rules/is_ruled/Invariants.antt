use Rattle.std.proofs.Common.{◌≡◌, map, drop}
use Rattle.gq_model.specs.machine.Lists.{any_of}
use Rattle.gq_model.specs.machine.Program.{text_eq}
use Rattle.gq_reader.specs.Key_rules.{rule_of}
use Rattle.gq_reader.proofs.rules.is_ruled.Given as goal

abbrev pub invariant-loop-rule : goal.invariant-loop-rule
invariant-loop-rule l = any_of (λ r. text_eq l.text r.key) (map rule_of (drop l.rule-index l.rules)) ≡ any_of (λ r. text_eq l.text r.key) (map rule_of l.rules)
