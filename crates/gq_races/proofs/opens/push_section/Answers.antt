use Rattle.std.proofs.Common.{◌∙◌, ap}
use Rattle.gq_races.proofs.Race_line_text.{opened_same, section_lines}
use Rattle.gq_races.specs.Race_text.{prefix_of, opened_text}
use Rattle.gq_races.specs.internal.Kind_lines.{opened_line}
use Rattle.gq_races.specs.internal.Openers.{opens_among}
use Rattle.gq_views.specs.internal.Table_leaves.{served_by}
use Rattle.gq_races.proofs.opens.push_section.Goals as goal

pub returns-in-Ok : goal.returns-in-Ok
returns-in-Ok c =
    section_lines (λ section. opens_among (served_by c.args.client.now) c.args.leaf) opened_line opened_text opened_same
    c.args.client.now.component.label c.args.section c.args.body.now c.as_slice.result.now c.args.text.now.items _
    (c.as_slice.ensures.value ∙ (c.in_ok-prefix.ensures ∙ ap (λ l. prefix_of l c.args.section) c.label.ensures.label)) c.in-Ok.ensures.lines
