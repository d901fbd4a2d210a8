use Rattle.std.proofs.Common.{ap, ◌∙◌, ◌++◌}
use Rattle.gq_views.specs.Numbered.{local_rows, section_rows, text_of}
use Rattle.gq_views.proofs.Numbered_rows.{numbered_text}
use Rattle.gq_views.proofs.numbered_listing.numbered_listing.Goals as goal

pub returns : goal.returns
returns c =
    numbered_text c.args.program.now c.new-text.result.items c.push_locals.new.text.items c.push_sections.new.text.items c.new-text.ensures.items
    (c.in_ok-push_locals.ensures ∙ ap (λ l. c.new-text.result.items ++ text_of (local_rows 0 l)) c.locals.ensures)
    (c.in_ok-push_sections.ensures ∙ ap (λ l. c.push_locals.new.text.items ++ text_of (section_rows l)) c.sections.ensures)
