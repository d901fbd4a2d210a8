-- A statement behind a blank.
use Rattle.std.proofs.Common.{◌∷◌, [], ◌++◌, ap, sym}
use Rattle.gq_traces.specs.internal.Printed_steps.{statement_text}
use Rattle.gq_traces.proofs.Sequential_text_writes.{goes_both, goes_text}
use Rattle.gq_traces.proofs.step_lines.write_statement.Goals as goal

pub returns-in-Plain : goal.returns-in-Plain
returns-in-Plain g c =
    goes_text g.W.Write.contents c.args.out.now c.write_on.new.out c.args.going c.write_on.result (32 ∷ [] ++ c.in-Plain.text.now) _
    (ap statement_text (sym c.in-Plain.is))
    (goes_both g.W.Write.contents c.args.out.now c.write_on-going.new.out c.write_on.new.out c.args.going c.write_on-going.result c.write_on.result
    (32 ∷ []) c.in-Plain.text.now c.write_on-going.ensures c.write_on.ensures)
