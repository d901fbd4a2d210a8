use Rattle.std.proofs.Common.{ap, ◌∙◌, ◌++◌}
use Rattle.gq_views.specs.Listing.{joined, locals_lines, sections_lines}
use Rattle.gq_views.proofs.Printed_sections.{listing_text}
use Rattle.gq_views.proofs.listing.listing.Goals as goal

pub returns : goal.returns
returns c =
    listing_text c.args.program.now c.new-text.result.items c.push_locals.new.text.items c.push_sections.new.text.items c.new-text.ensures.items
    (c.in_ok-push_locals.ensures ∙ ap (λ l. c.new-text.result.items ++ joined (locals_lines 0 l)) c.locals.ensures)
    (c.in_ok-push_sections.ensures ∙ ap (λ l. c.push_locals.new.text.items ++ joined (sections_lines l)) c.sections.ensures)
