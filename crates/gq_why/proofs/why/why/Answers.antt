-- The text was made, and is written.
use Rattle.std.proofs.Common.{Ok, ap, sym, ◌∙◌}
use Rattle.gq_why.specs.Why_written.{why_from, why_written}
use Rattle.gq_why.proofs.why.why.Goals as goal

pub returns : goal.returns
returns g c =
    c.put_text.ensures (why_written c.args.scenario.now c.args.name.now)
    (ap (λ s. why_from s c.args.name.now) c.in-Ok.ensures ∙ c.in_ok-text.ensures.text ∙ ap Ok (sym c.as_slice.ensures.value))
