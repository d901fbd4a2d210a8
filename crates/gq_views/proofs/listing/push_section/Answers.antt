use Rattle.std.proofs.lemmas.Result.{on_ok_weaker}
use Rattle.gq_views.proofs.Printed_sections.{section_text}
use Rattle.gq_views.proofs.listing.push_section.Goals as goal

pub returns : goal.returns
returns c =
    on_ok_weaker c.push_line.result (λ e. section_text c.args.section c.args.body.now c.args.text.now.items _ _ _ _ c.in_ok-push_heading.ensures
    c.in_ok-end_line.ensures c.in_ok-push_body.ensures e) c.push_line.ensures
