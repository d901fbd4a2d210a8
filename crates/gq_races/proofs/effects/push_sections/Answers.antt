use Rattle.gq_model.specs.texts.Code.{greatest_statements}
use Rattle.gq_races.proofs.Race_leaf_lines.{sections_put}
use Rattle.gq_races.proofs.Race_line_text.{few_after}
use Rattle.gq_races.proofs.effects.push_sections.Goals as goal

pub loop-section-preserved : goal.loop-section-preserved
loop-section-preserved c =
    let l = c.loop-section in
    let all = c.args.sections.now in
    let p = c.loop-section-item.result in
    let within = c.loop-section-test.true in
    let is = c.loop-section-item.is in
    record {
      lines = sections_put c.args.shared c.args.label.now all l.section-index p within is l.text.items c.push_section.new.text.items _
          c.in_ok-push_section.ensures l.invariant.lines;
      few = few_after all l.section-index p within is greatest_statements l.invariant.few;
    }
