-- There are as many as there were.
use Rattle.std.proofs.Common.{◌≡◌, ◌∙◌, length, ap, arith}
use Rattle.std.proofs.lemmas.Grind.{common_steps}
use Rattle.gq_scenario.specs.Component_trees.{version_number}
use Rattle.gq_sizes.proofs.Upgrades_apart.{all_interfaces}
use Rattle.gq_sizes.proofs.sized.+interfaces_sized.Goals as goal

pub returns-in_default-clause-only : goal.returns-in_default-clause-only
returns-in_default-clause-only t c all given rams capss h =
    let many = all_interfaces (version_number c.args.version) all given c.args.interfaces.now in
    let same : length c.args.made.now ≡ length c.args.interfaces.now = ap length h ∙ many in absurd (grind (arith, common_steps))
