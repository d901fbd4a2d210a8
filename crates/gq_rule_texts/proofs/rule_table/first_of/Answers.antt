-- The next rule has the code, or not.
use Rattle.std.proofs.Common.{◌∙◌, sym}
use Rattle.gq_rule_texts.specs.Rule_tables.{is_code}
use Rattle.gq_rule_texts.proofs.First_rule_found.{found_next, not_next, same_test}
use Rattle.gq_rule_texts.proofs.rule_table.first_of.Goals as goal

pub returns-then-eq_ignore_ascii_case : goal.returns-then-eq_ignore_ascii_case
returns-then-eq_ignore_ascii_case c =
    sym (found_next (is_code c.args.code.now) c.args.rules.now c.loop-rule.rule-index _ c.loop-rule-test.true (
    sym (same_test c.eq_ignore_ascii_case.result _ _ c.eq_ignore_ascii_case.ensures.test) ∙ c.if-eq_ignore_ascii_case.true
    )) ∙ c.loop-rule.invariant

pub loop-rule-preserved : goal.loop-rule-preserved
loop-rule-preserved c =
    sym (not_next (is_code c.args.code.now) c.args.rules.now c.loop-rule.rule-index _ c.loop-rule-test.true (
    sym (same_test c.eq_ignore_ascii_case.result _ _ c.eq_ignore_ascii_case.ensures.test) ∙ c.if-eq_ignore_ascii_case.false
    )) ∙ c.loop-rule.invariant
