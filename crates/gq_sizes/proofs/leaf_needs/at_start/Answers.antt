use Rattle.std.proofs.Common.{◌∙◌, ap}
use Rattle.gq_model.specs.machine.Amounts.{Ram, Caps, amount}
use Rattle.gq_verify.specs.Saturated_numbers.{saturated}
use Rattle.gq_sizes.specs.Size.{least_at, unless_after}
use Rattle.gq_sizes.proofs.Least_leaves.{least_printed}
use Rattle.gq_sizes.proofs.leaf_needs.at_start.Goals as goal

pub returns-in-None : goal.returns-in-None
returns-in-None c all e =
    let x = c.args.leaf in
    c.least_at.ensures
    ∙ (least_printed all c.args.least.now e x
    ∙ ap (λ o. amount (saturated (unless_after o (least_at Ram all x))) (saturated (unless_after o (least_at Caps all x)))) c.in-None.ensures)
