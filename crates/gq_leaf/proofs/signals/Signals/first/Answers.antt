-- The number of the first signal that is submitted.
use Rattle.std.proofs.Common.{◌∙◌, sym, ap}
use Rattle.std.specs.Prelude.{option_map}
use Rattle.gq_model.specs.machine.Step.{first_signal}
use Rattle.gq_leaf.specs.internal.Signal_lists.{first_from}
use Rattle.gq_leaf.proofs.Signal_counts.{first_seen}
use Rattle.gq_leaf.proofs.signals.Signals.first.Goals as goal

pub returns-in-Some-clause-first : goal.returns-in-Some-clause-first
returns-in-Some-clause-first c =
    sym c.in-Some.is ∙ c.first_in.ensures.first ∙ ap (first_from 0) c.as_slice.ensures.value ∙ first_seen c.self.inside.list.items
    ∙ ap (λ l. option_map (λ p. p.0) (first_signal l)) c.self.view_is

pub returns-in-None-clause-first : goal.returns-in-None-clause-first
returns-in-None-clause-first c =
    sym c.in-None.is ∙ c.first_in.ensures.first ∙ ap (first_from 0) c.as_slice.ensures.value ∙ first_seen c.self.inside.list.items
    ∙ ap (λ l. option_map (λ p. p.0) (first_signal l)) c.self.view_is
