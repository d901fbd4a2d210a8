use Rattle.std.proofs.Common.{ap, sym, ◌∙◌, arith}
use Rattle.std.specs.Prelude.{slice_get}
use Rattle.gq_model.specs.machine.Accounts.{leaf_count}
use Rattle.gq_model.specs.machine.Scenario.{Scenario}
use Rattle.gq_scenario.specs.Sizes.{leaves_in}
use Rattle.gq_scenario.proofs.Preorder_leaves.{components-count, component_leaf}
use Rattle.gq_scenario.proofs.scenario.Scenario.leaf.Goals as goal

pub unreachable-requires : goal.unreachable-requires
unreachable-requires c =
    let nodes = ap (λ (s : Scenario). leaf_count s.nodes) c.self.view_is in
    omega (arith, c.in-Err.ensures.left, c.index.ensures, nodes, components-count c.args.self.now)

pub returns : goal.returns
returns c =
    let found = rw c.index.ensures at c.in-Ok.ensures.found in
    let nodes = ap (λ (s : Scenario). slice_get (leaves_in s.nodes) c.args.leaf) c.self.view_is in
    component_leaf c.args.self.now c.args.leaf c.in-Ok.leaf.now (sym nodes ∙ found)
