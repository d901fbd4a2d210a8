-- A write failed within a line.
use Rattle.std.proofs.Common.{List, ℕ, subst}
use Rattle.std.proofs.lemmas.Result.{err_from_is_err_and}
use Rattle.gq_output.specs.Writes.{IsPrefix, IsRaised}
use Rattle.gq_rule_texts.specs.declared.rule_table.RuleText.{RuleText}
use Rattle.gq_rule_texts.proofs.Rule_text_parts.{prefix_written}
use Rattle.gq_rule_texts.proofs.write.write_lines.Goals as goal

pub returns-in_err-put : goal.returns-in_err-put
returns-in_err-put g c =
    let p = err_from_is_err_and c.from_residual.result c.from_residual.ensures.1 in
    let l = c.loop-rule in
    let a = g.W.Write.contents c.args.out.now.writer in
    let b = g.W.Write.contents l.out.writer in
    let d = g.W.Write.contents c.put.new.out.writer in
    let h = subst (λ (t : List ℕ). IsPrefix b d t) c.as_bytes.ensures.value c.in_err-put.ensures.prefix in
    rw (p.1) (record {
      written = tt;
      counted = tt;
      prefix = prefix_written (λ (r : RuleText). r.line.now) c.args.rules.now l.rule-index _ c.loop-rule-test.true a b d l.invariant.written h;
      raised = subst (λ n. IsRaised n c.put.new.out.failures) l.invariant.counted c.in_err-put.ensures.raised;
    })
