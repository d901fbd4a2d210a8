use Rattle.std.proofs.lemmas.Result.{on_ok_weaker}
use Rattle.gq_views.proofs.Numbered_rows.{section_text}
use Rattle.gq_views.proofs.numbered_listing.push_section.Goals as goal

pub returns : goal.returns
returns c =
    on_ok_weaker c.push_words.result (λ e. section_text c.args.section c.args.body.now c.args.text.now.items _ _ _ _ _ c.in_ok-push_no_number.ensures
    c.in_ok-push_heading.ensures c.in_ok-end_line.ensures c.in_ok-_next.ensures.lines e) c.push_words.ensures
