use Rattle.std.proofs.Common.{◌∙◌, ap, sym}
use Rattle.std.specs.Prelude.{map}
use Rattle.gq_model.specs.machine.Amounts.{Amount, amount}
use Rattle.gq_model.specs.machine.Scenario.{Interface}
use Rattle.gq_fit.proofs.same_shape.same_interface.Goals as goal

pub returns-then-same_counts-clause-only : goal.returns-then-same_counts-clause-only
returns-then-same_counts-clause-only c e =
    let bare = map (λ (u : Amount). amount 0 0) in
    c.same_count.ensures.only
    (ap bare c.upgrades.ensures.upgrades ∙ (ap (λ (i : Interface). i.upgrades) e ∙ sym (ap bare c.upgrades-then-same_counts.ensures.upgrades)))
