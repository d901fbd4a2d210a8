-- The rule is in none of the families so far.
use Rattle.std.proofs.Common.{◌≡◌, drop}
use Rattle.gq_rule_texts.specs.Rule_tables.{rule_of}
use Rattle.gq_rule_texts.proofs.rule_table.rule_of.Given as goal

abbrev pub invariant-loop-rules : goal.invariant-loop-rules
invariant-loop-rules l = rule_of (drop l.rules-index l.table) l.code ≡ rule_of l.fn.table l.code
