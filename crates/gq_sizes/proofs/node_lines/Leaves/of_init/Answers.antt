use Rattle.std.proofs.Common.{◌∙◌, ap, ap₂}
use Rattle.gq_model.specs.machine.Amounts.{Amount}
use Rattle.gq_sizes.specs.Size_text.{unless}
use Rattle.gq_sizes.proofs.node_lines.Leaves.of_init.Goals as goal

pub returns : goal.returns
returns c all is =
    let least = c.least_of_children-after.ensures.needed all is.least in
    let endless = c.of_children-endless.ensures.found all is.endless in (
      c.least_of.ensures.ram ∙ ap (λ (a : Amount). a.ram) least,
      c.least_of.ensures.caps ∙ ap₂ (λ b (a : Amount). unless b a.caps) endless least,
    )
