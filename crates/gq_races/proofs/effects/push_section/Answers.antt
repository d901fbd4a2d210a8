use Rattle.std.proofs.Common.{◌∙◌, ◌++◌, ap, map}
use Rattle.gq_races.proofs.Race_leaf_lines.{section_put_at}
use Rattle.gq_races.specs.Races.{found_in}
use Rattle.gq_races.specs.Race_text.{has_effect}
use Rattle.gq_races.specs.internal.Kind_lines.{effect_line}
use Rattle.gq_views.specs.Listing.{joined}
use Rattle.gq_races.proofs.effects.push_section.Goals as goal

pub returns-in-Ok : goal.returns-in-Ok
returns-in-Ok c =
    section_put_at c.args.shared c.args.label.now c.args.section c.args.body.now c.as_slice.result.now c.args.text.now.items
    c.push_if_reaction.new.text.items _ (c.as_slice.ensures.value ∙ c.in_ok-prefix.ensures) c.in_ok-push_if_reaction.ensures
    (c.in-Ok.ensures.lines
    ∙ ap (λ b. c.push_if_reaction.new.text.items ++ joined (map (effect_line c.as_slice.result.now) (found_in (has_effect b) 1 c.args.body.now)))
    c.for_several-several.ensures)
