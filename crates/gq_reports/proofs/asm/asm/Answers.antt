-- The line was made, and is written.
use Rattle.std.proofs.Common.{Ok, ap, sym, ◌∙◌}
use Rattle.gq_reports.specs.Whole.{asm_from, asm_written}
use Rattle.gq_reports.proofs.asm.asm.Goals as goal

pub returns : goal.returns
returns g c =
    c.put_text.ensures (asm_written c.args.scenario.now c.args.name.now)
    (ap (λ s. asm_from s c.args.name.now) c.in-Ok.ensures ∙ c.in_ok-line.ensures.line ∙ ap Ok (sym c.as_bytes.ensures.value))
