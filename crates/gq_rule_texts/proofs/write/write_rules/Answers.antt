-- A write failed within a family.
use Rattle.std.proofs.Common.{List, subst}
use Rattle.std.proofs.lemmas.Result.{err_from_is_err_and}
use Rattle.std.specs.Borrow.{Bor}
use Rattle.gq_output.specs.Writes.{IsRaised}
use Rattle.gq_rule_texts.specs.declared.rule_table.RuleText.{RuleText}
use Rattle.gq_rule_texts.specs.Rule_tables.{lines_of}
use Rattle.gq_rule_texts.proofs.Rule_text_parts.{prefix_written}
use Rattle.gq_rule_texts.proofs.write.write_rules.Goals as goal

pub returns-in_err-write_lines : goal.returns-in_err-write_lines
returns-in_err-write_lines g c =
    let p = err_from_is_err_and c.from_residual.result c.from_residual.ensures.1 in
    let l = c.loop-rules in
    let a = g.W.Write.contents c.args.out.now.writer in
    let b = g.W.Write.contents l.out.writer in
    let d = g.W.Write.contents c.write_lines.new.out.writer in
    rw (p.1) (record {
      written = tt;
      counted = tt;
      prefix =
          prefix_written (λ (f : Bor (List RuleText)). lines_of f.now) c.args.table.now l.rules-index _ c.loop-rules-test.true a b d l.invariant.written
          c.in_err-write_lines.ensures.prefix;
      raised = subst (λ n. IsRaised n c.write_lines.new.out.failures) l.invariant.counted c.in_err-write_lines.ensures.raised;
    })
