use Rattle.gq_model.specs.texts.Code.{greatest_statements}
use Rattle.gq_races.proofs.Race_line_text.{opened_same, few_after, section_put}
use Rattle.gq_races.specs.Race_text.{opened_text}
use Rattle.gq_races.specs.internal.Kind_lines.{opened_line}
use Rattle.gq_races.specs.internal.Openers.{opens_among}
use Rattle.gq_views.specs.internal.Table_leaves.{served_by}
use Rattle.gq_races.proofs.opens.push_sections.Goals as goal

pub loop-section-preserved : goal.loop-section-preserved
loop-section-preserved c =
    let l = c.loop-section in
    let all = c.args.sections.now in
    let p = c.loop-section-item.result in
    let within = c.loop-section-test.true in
    let is = c.loop-section-item.is in
    record {
      lines = section_put (λ section. opens_among (served_by c.args.client.now) c.args.leaf) opened_line opened_text
          opened_same c.args.client.now.component.label all l.section-index p within is l.text.items c.push_section.new.text.items _
          c.in_ok-push_section.ensures l.invariant.lines;
      few = few_after all l.section-index p within is greatest_statements l.invariant.few;
    }
