-- The text was made, and is written.
use Rattle.std.proofs.Common.{Ok, ap, sym, ◌∙◌}
use Rattle.gq_load.specs.Load.{loaded}
use Rattle.gq_reports.proofs.Command_text_endings.{reported_text}
use Rattle.gq_views.specs.Tree.{graph_text}
use Rattle.gq_views.specs.Views_written.{graph_written}
use Rattle.gq_views.proofs.graph.graph.Goals as goal

pub returns : goal.returns
returns g c =
    c.put_text.ensures (graph_written c.args.scenario.now)
    (reported_text graph_text (loaded c.args.scenario.now) c.in_ok-text.text.items c.in_ok-text.ensures.text ∙ ap Ok (sym c.as_slice.ensures.value))
