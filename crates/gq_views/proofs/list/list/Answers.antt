-- The text was made, and is written.
use Rattle.std.proofs.Common.{Ok, ap, sym, ◌∙◌}
use Rattle.gq_views.specs.Views_written.{list_from, list_written}
use Rattle.gq_views.proofs.list.list.Goals as goal

pub returns : goal.returns
returns g c =
    c.put_text.ensures (list_written c.args.margin c.args.scenario.now c.args.name.now)
    (ap (λ s. list_from c.args.margin s c.args.name.now) c.in-Ok.ensures ∙ c.in_ok-text.ensures.text ∙ ap Ok (sym c.as_slice.ensures.value))
