-- No rule so far has the code.
use Rattle.std.proofs.Common.{◌≡◌, drop, find}
use Rattle.gq_rule_texts.specs.Rule_tables.{is_code}
use Rattle.gq_rule_texts.proofs.rule_table.first_of.Given as goal

abbrev pub invariant-loop-rule : goal.invariant-loop-rule
invariant-loop-rule l = find (is_code l.code) (drop l.rule-index l.rules) ≡ find (is_code l.code) l.fn.rules
