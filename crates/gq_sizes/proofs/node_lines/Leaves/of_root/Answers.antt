-- What the whole system needs, by its children.
use Rattle.std.proofs.Common.{◌∙◌, ap, ap₂, arith}
use Rattle.gq_model.specs.machine.Accounts.{leaf_count}
use Rattle.gq_model.specs.machine.Amounts.{Amount}
use Rattle.gq_sizes.specs.Endless.{children_endless}
use Rattle.gq_sizes.specs.Size_text.{unless}
use Rattle.gq_sizes.specs.internal.Printed_sizes.{init_least_printed}
use Rattle.gq_sizes.proofs.Printed_size_nodes.{root_is}
use Rattle.gq_sizes.proofs.node_lines.Leaves.of_root.Goals as goal

pub least_of_children-after-requires : goal.least_of_children-after-requires
least_of_children-after-requires c = omega (arith, ap leaf_count c.nodes.ensures, c.bounds.ensures.count)

pub of_children-endless-requires : goal.of_children-endless-requires
of_children-endless-requires c = omega (arith, ap leaf_count c.nodes-2.ensures, c.bounds.ensures.count)

pub returns : goal.returns
returns c all is =
    let needed = c.least_of_children-after.ensures.needed all is.least ∙ ap (init_least_printed all 0) c.nodes.ensures in
    let least = c.root_least.ensures ∙ root_is all c.args.scenario.now.nodes c.least_of_children-after.result.0 needed in
    let endless = c.of_children-endless.ensures.found all is.endless ∙ ap (children_endless all 0) c.nodes-2.ensures in (
      c.least_of.ensures.ram ∙ ap (λ (a : Amount). a.ram) least,
      c.least_of.ensures.caps ∙ ap₂ (λ b (a : Amount). unless b a.caps) endless least,
    )
