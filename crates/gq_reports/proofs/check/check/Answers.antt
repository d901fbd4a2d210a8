-- The lines of the budgets were made, and are written.
use Rattle.std.proofs.Common.{Ok, ap, sym, ◌∙◌}
use Rattle.gq_load.specs.Load.{loaded}
use Rattle.gq_reports.specs.Whole.{check_written}
use Rattle.gq_reports.proofs.Printed_budget_lines.{written_lines}
use Rattle.gq_reports.proofs.check.check.Goals as goal

pub returns : goal.returns
returns g c =
    c.put_text.ensures (check_written c.args.scenario.now)
    (written_lines (loaded c.args.scenario.now) c.in_ok-lines.lines.items c.in_ok-lines.ensures.lines ∙ ap Ok (sym c.as_slice.ensures.value))
