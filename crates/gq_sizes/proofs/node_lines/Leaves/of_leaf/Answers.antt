use Rattle.std.proofs.Common.{◌∙◌, ap, ap₂}
use Rattle.gq_model.specs.machine.Amounts.{Amount}
use Rattle.gq_sizes.specs.Size_text.{unless}
use Rattle.gq_sizes.proofs.Least_leaves.{least_printed}
use Rattle.gq_sizes.proofs.Leaves_endless.{entry_is}
use Rattle.gq_sizes.proofs.node_lines.Leaves.of_leaf.Goals as goal

pub returns : goal.returns
returns c all is =
    let least = c.least_at.ensures ∙ least_printed all c.args.self.now.least.now is.least c.args.leaf in
    let endless = c.is_at.ensures ∙ entry_is all c.args.self.now.endless.now is.endless c.args.leaf in (
      c.least_of.ensures.ram ∙ ap (λ (a : Amount). a.ram) least,
      c.least_of.ensures.caps ∙ ap₂ (λ b (a : Amount). unless b a.caps) endless least,
    )
