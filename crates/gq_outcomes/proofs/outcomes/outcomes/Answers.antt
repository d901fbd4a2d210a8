-- The text was made, and is written.
use Rattle.std.proofs.Common.{Ok, ap, sym, ◌∙◌}
use Rattle.gq_outcomes.specs.Written.{outcomes_written}
use Rattle.gq_outcomes.proofs.outcomes.outcomes.Goals as goal

pub returns : goal.returns
returns g c = record {
  writes = c.put_text.ensures (outcomes_written c.args.scenario.now) (c.in_ok-text.ensures.text ∙ ap Ok (sym c.as_slice.ensures.value));
}
