use Rattle.std.proofs.Common.{◌∙◌}
use Rattle.gq_model.specs.texts.Code.{greatest_statements}
use Rattle.gq_views.proofs.Numbered_rows.{sections_here}
use Rattle.gq_views.proofs.Printed_sections.{few_after}
use Rattle.gq_views.proofs.Printed_statements.{grown}
use Rattle.gq_views.proofs.numbered_listing.push_sections.Goals as goal

pub loop-section-preserved : goal.loop-section-preserved
loop-section-preserved c =
    let l = c.loop-section in
    let all = c.args.sections.now in
    record {
      written = grown l.text.items c.push_section.new.text.items _ _ _ c.in_ok-push_section.ensures
          (sections_here all l.section-index c.loop-section-item.result c.loop-section-test.true c.loop-section-item.is) ∙ l.invariant.written;
      few = few_after all l.section-index c.loop-section-item.result c.loop-section-test.true c.loop-section-item.is greatest_statements l.invariant.few;
    }
