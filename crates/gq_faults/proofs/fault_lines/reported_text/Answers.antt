use Rattle.std.proofs.Common.{sym, subst, ◌∙◌}
use Rattle.gq_faults.specs.Details.{AreDetails}
use Rattle.gq_faults.proofs.Reported_fault_prefixes.{reported_is}
use Rattle.gq_faults.proofs.fault_lines.reported_text.Goals as goal

pub returns : goal.returns
returns c = record {
  line = c.args.position.line;
  column = c.args.position.column;
  details = c.lines.result.now;
  form = subst AreDetails (sym c.lines.ensures.lines) c.lines.ensures.form;
  is =
      c.in_ok-extend_from_slice.ensures.items
      ∙ reported_is c.args.path.now c.args.fault.now c.lines.result.now c.in_ok-text.text.items c.args.position.line c.args.position.column
      (c.in_ok-text.ensures.items ∙ (c.as_bytes.ensures.value ∙ c.in_ok-prefix.ensures.ok));
}
