-- What was found is reported.
use Rattle.std.proofs.Common.{◌∙◌}
use Rattle.gq_sizes.proofs.size.text_of.Goals as goal

pub pushed-requires-clause-leaves : goal.pushed-requires-clause-leaves
pushed-requires-clause-leaves c =
    record {
      least = c.as_slice.ensures.value ∙ c.in_ok-least.ensures.leaves.least;
      endless = c.as_slice-2.ensures.value ∙ c.in_ok-least.ensures.leaves.endless;
    }
