use Rattle.std.proofs.Common.{◌≤◌, ◌∷◌, [], length, ap, arith}
use Rattle.std.proofs.lemmas.Grind.{common_steps}
use Rattle.gq_model.specs.machine.Accounts.{leaf_count}
use Rattle.gq_scenario.specs.Sizes.{node_count}
use Rattle.gq_scenario.specs.Component_trees.{nodes_of, version_number}
use Rattle.gq_scenario.specs.declared.scenario.Node.{Node}
use Rattle.gq_sizes.proofs.Nodes_apart.{apart, as_many_nodes}
use Rattle.gq_sizes.proofs.sized.+nodes.Goals as goal

pub node_sized-nodes_sized-requires : goal.node_sized-nodes_sized-requires
node_sized-nodes_sized-requires t c =
    let children = c.nodes-then-is_init_sized.ensures in
    let nodes = ap node_count children in
    let leaves = ap leaf_count children in
    let all = ap (λ (n : Node). node_count (nodes_of (n ∷ []))) c.in-Init-Init.is-1 in
    let each = ap (λ (n : Node). leaf_count (nodes_of (n ∷ []))) c.in-Init-Init.is-1 in
    (omega (arith, c.decreases, nodes, all), omega (arith, c.requires, leaves, each))

pub nodes_sized-nodes_sized-requires : goal.nodes_sized-nodes_sized-requires
nodes_sized-nodes_sized-requires t c =
    let some : 1 ≤ length c.args.nodes.now = grind (arith, common_steps) in
    let parts = apart c.args.nodes.now c.node-item.result some c.node-item.is in (
      omega (arith, c.decreases, parts.nodes, parts.some),
      omega (arith, c.requires, parts.leaves, c.in_ok-next-in-len1-up-len1-up.ensures.next),
    )

pub nodes_sized-returns-in_default-clause-only : goal.nodes_sized-returns-in_default-clause-only
nodes_sized-returns-in_default-clause-only t c all are h =
    let many = as_many_nodes (version_number c.args.version) all c.args.first c.args.made.now c.args.nodes.now h.same in absurd (grind (arith, common_steps))

pub nodes_sized-returns-in_default-2-clause-only : goal.nodes_sized-returns-in_default-2-clause-only
nodes_sized-returns-in_default-2-clause-only t c all are h =
    let many = as_many_nodes (version_number c.args.version) all c.args.first c.args.made.now c.args.nodes.now h.same in absurd (grind (arith, common_steps))
