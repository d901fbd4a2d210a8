-- The next family has a rule of the code, or not.
use Rattle.std.proofs.Common.{◌∙◌, List, Bor, ap, sym, option_map}
use Rattle.gq_rule_texts.specs.declared.rule_table.RuleText.{RuleText}
use Rattle.gq_rule_texts.specs.Rule_tables.{is_code}
use Rattle.gq_rule_texts.proofs.First_rule_found.{none_in_next, some_in_next}
use Rattle.gq_rule_texts.proofs.rule_table.rule_of.Goals as goal

pub returns-in-Some : goal.returns-in-Some
returns-in-Some c =
    sym (some_in_next (is_code c.args.code.now) (λ (f : Bor (List RuleText)). f.now) c.args.table.now c.loop-rules.rules-index _ c.in-Some.rule.now
    c.loop-rules-test.true
    (sym c.first_of.ensures ∙ ap (option_map (λ (rule : Bor RuleText). rule.now)) c.in-Some.is)) ∙ c.loop-rules.invariant

pub loop-rules-preserved : goal.loop-rules-preserved
loop-rules-preserved c =
    sym (none_in_next (is_code c.args.code.now) (λ (f : Bor (List RuleText)). f.now) c.args.table.now c.loop-rules.rules-index _ c.loop-rules-test.true
    (sym c.first_of.ensures ∙ ap (option_map (λ (rule : Bor RuleText). rule.now)) c.in_default.is)) ∙ c.loop-rules.invariant
