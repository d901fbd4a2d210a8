-- The text was made, and is written.
use Rattle.std.proofs.Common.{Ok, ap, sym, ◌∙◌}
use Rattle.gq_sizes.specs.Judged_scenario.{judged_without}
use Rattle.gq_sizes.specs.Size_text.{size_text}
use Rattle.gq_sizes.specs.Size_written.{size_written}
use Rattle.gq_reports.proofs.Command_text_endings.{reported_text}
use Rattle.gq_sizes.proofs.size.size.Goals as goal

pub returns : goal.returns
returns g c =
    c.put_text.ensures (size_written c.args.scenario.now)
    (reported_text size_text (judged_without c.args.scenario.now) c.in_ok-text.text.items c.in_ok-text.ensures.text ∙ ap Ok (sym c.as_slice.ensures.value))
